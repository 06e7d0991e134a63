-- The job that is found by a claim number, once a job was put in or taken out.
use Rattle.std.proofs.Common.{◌≡◌, Bool, true, false, if◌then◌else◌, Option, option_map, refl, ap, ◌∙◌}
use Rattle.tape.specs.declared.jobs.KeptJob.{KeptJob}
use Rattle.tape.specs.Jobs.{job_of}

either : (b : Bool) (changed old : Option KeptJob) →
    option_map job_of (if b then changed else old) ≡ (if b then option_map job_of changed else option_map job_of old)
either true changed old = refl
either false changed old = refl

pub found_job : (found changed old : Option KeptJob) (b : Bool) → found ≡ (if b then changed else old) →
    option_map job_of found ≡ (if b then option_map job_of changed else option_map job_of old)
found_job found changed old b is = ap (option_map job_of) is ∙ either b changed old
