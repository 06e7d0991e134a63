-- What a text says, by its document.
use Rattle.std.proofs.Common.{◌≡◌, ◌≤◌, ℕ, List, length, Option, Some, None, Result, Ok, Err, IfErr}
use Rattle.std.specs.Str.{IsUtf8}
use Rattle.toml.specs.Data.{Members}
use Rattle.toml.specs.Parse.{parse_document}
use Rattle.tor_settings.specs.Rules.{broken_rule}
use Rattle.tor_settings.specs.Settings.{IsDocument, TellsFault, TellsRule, in_document, most_bytes}
use Rattle.tor_settings.specs.declared.settings.Settings.{Settings}
use Rattle.tor_settings.specs.declared.fault.SettingsFault.{SettingsFault}
use Rattle.tor_settings.specs.declared.fault.SettingsFault.TheVariants.{Rule, Memory}

pub tells_of_document : (r : Result Settings SettingsFault) (text : List ℕ) (ms : Members) → length text ≤ most_bytes
    → IsDocument text ms
    → IfErr r (TellsRule (broken_rule ms)) → IfErr r (TellsFault text)
tells_of_document (Ok s) text ms short reads is = tt
tells_of_document (Err (Rule n)) text ms short reads is = in_document ms n short reads is
tells_of_document (Err Memory) text ms short reads is = short

not_both : (o : Option Members) (ms : Members) → o ≡ Some ms → o ≡ None → ⊥
not_both o ms some none = cc

pub unread : (text : List ℕ) → (IsUtf8 text → parse_document text ≡ None) → (ms : Members) → ¬ IsDocument text ms
unread text none ms reads = not_both (parse_document text) ms reads.document (none reads.utf8)
