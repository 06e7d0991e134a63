use Rattle.std.proofs.Common.{◌≡◌, ◌∙◌, rules, refl, sym, ap, subst, Some, List, [], ◌∷◌}
use Rattle.atomic_table.specs.Table.{opening}
use Rattle.turn_lock.specs.Rule.{IsOneHistory}
use Rattle.turn_lock.specs.Views.{opening_view}
use Rattle.turn_lock.proofs.Keeps.{opens}
use Rattle.turn_lock.proofs.lock.TurnLock.new.Goals as goal

pub new-requires : goal.new-requires
new-requires g c = let t = c.of.result.value in let S = g.T.Kept.stands in let L = g.T.Kept.is_legal in
    let items : c.push.new.self.items ≡ c.args.state ∷ [] =
    search rules in let same : t ≡ c.args.state = c.of.ensures in let b = c.requires.stands in
    subst (λ (xs : List g.row.T.Denot). IsOneHistory S L (Some t) c.args.seats
    (opening (0 ∷ 0 ∷ 0 ∷ 0 ∷ 0 ∷ []) xs (opening_view t c.args.seats)))
    (sym (items ∙ ap (λ (x : g.row.T.Denot). x ∷ []) (sym same)))
    (opens S L (Some t) c.args.seats t refl c.requires.seats
    ((b.0, subst (λ x. g.T.Kept.stands x b.0 []) (sym same) b.1), λ _ x. x) (λ d x. g.met.T.Kept.only_legal t d [] x))
