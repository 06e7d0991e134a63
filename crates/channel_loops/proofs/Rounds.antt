-- What the steps of a round come to.
use Rattle.std.proofs.Common.{◌≡◌, List, ◌++◌, ap, subst, ◌∙◌, append_assoc}
use Rattle.tr_io.specs.declared.step.Step.{Step}
use Rattle.tr_io.specs.PortSteps.{Adds}

pub adds_as : (before steps same after : List Step) → Adds before steps after → steps ≡ same → Adds before same after
adds_as before steps same after adds is = subst (λ xs. Adds before xs after) is adds

pub adds_both : (before middle after first second : List Step) → Adds before first middle → Adds middle second after
    → Adds before (first ++ second) after
adds_both before middle after first second adds then_adds = record {
  behind = then_adds.behind ∙ ap (λ xs. xs ++ second) adds.behind ∙ append_assoc before first second;
  few = then_adds.few;
}
