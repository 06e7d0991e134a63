-- The host of a RESOLVE is read as it is spelled.
use Rattle.std.proofs.Common.{◌≡◌, ℕ, cond, ◌&&◌, leb, Some, None, List, [], ◌∷◌, ◌++◌, length, ap, ◌∙◌, subst}
use Rattle.std.specs.Prelude.{option_and_then}
use Rattle.std.proofs.lemmas.Bool.{le-leb}
use Rattle.std.proofs.lemmas.Bool.{leb-true}
use Rattle.tor_spec.specs.Begin.{IsHost, is_host_length}
use Rattle.tor_spec.specs.Resolve.{SpellsHost, resolve_host, resolve_payload}
use Rattle.tor_spec.specs.Text.{terminated_text}
use Rattle.tor_spec.proofs.Texts.{and_true}
use Rattle.tor_spec.proofs.TerminatedTexts.{terminated_text-append, terminated_text_is}
use Rattle.tor_spec.proofs.Choices.{chosen_value, then_some}

host_is_read : (host more : List ℕ) → IsHost host → resolve_host (host ++ 0 ∷ more) ≡ Some host
unfolding resolve_host is_host_length
host_is_read host more is_host =
    ap (option_and_then (λ (host : List ℕ). cond (is_host_length (length host)) (Some host) None))
    (terminated_text-append host more is_host.no_zero_byte)
    ∙ ap (λ b. cond (b && leb (length host) 255) (Some host) None) (le-leb 1 (length host) is_host.nonempty)
    ∙ ap (λ b. cond b (Some host) None) (le-leb (length host) 255 is_host.short)

pub spelled_host_is_read : (payload host : List ℕ) → SpellsHost payload host → resolve_host payload ≡ Some host
spelled_host_is_read payload host spells =
    ap resolve_host spells.spelling ∙ host_is_read host spells.more spells.is_host

pub resolve_payload_is_read : (host : List ℕ) → IsHost host → resolve_host (resolve_payload host) ≡ Some host
unfolding resolve_payload
resolve_payload_is_read host is_host = host_is_read host [] is_host

-- What is read from a RESOLVE is what it spells.
pub read_host_is_spelled : (payload host : List ℕ) → resolve_host payload ≡ Some host → SpellsHost payload host
unfolding resolve_host is_host_length
read_host_is_spelled payload host is =
    let read =
    then_some (λ (host : List ℕ). cond (is_host_length (length host)) (Some host) None) (terminated_text payload) host is in
    let text = read.0 in
    let ended = terminated_text_is payload text read.1 in
    let tests = chosen_value (leb 1 (length text) && leb (length text) 255) text host read.2 in
    let sizes = and_true (leb 1 (length text)) (leb (length text) 255) tests.0 in
    subst (SpellsHost payload) tests.1 (record {
      more = ended.0;
      spelling = ended.1;
      is_host = record {
        nonempty = leb-true _ _ sizes.0;
        short = leb-true _ _ sizes.1;
        no_zero_byte = ended.2;
      };
    })
