-- What a verdict says of a text.
use Rattle.std.specs.Prelude.{◌≡◌, Bool, List, ℕ, Result, Ok, Err, OnOk, IfErr}
use Rattle.std.proofs.Common.{ap, ◌∙◌}
use Rattle.rj_csv_io.specs.Grammar.{File, Derives}
use Rattle.rj_csv_io.specs.StrictFaults.{HasFault}
use Rattle.rj_csv_io.specs.Internal.StrictSteps.{initial_standing, verdict}
use Rattle.rj_csv_io.specs.declared.strict.header.HeaderPlace.{HeaderPlace}
use Rattle.rj_csv_io.specs.declared.strict.fault.StrictFault.{StrictFault}
use Rattle.rj_csv_io.proofs.Lawful.{Lawful}
use Rattle.rj_csv_io.proofs.Parsing.{parse, untaken}
use Rattle.rj_csv_io.proofs.Seen.{told, verdict-parse}
use Rattle.rj_csv_io.proofs.Sound.{GoodEnd, sound}
use Rattle.rj_csv_io.proofs.Complete.{derived, faulty}

module _ (d : ℕ) (h : HeaderPlace) (full : Bool) (text : List ℕ) where
  from-ok : (r : Result (Unit {0}) StrictFault) (p : Result File StrictFault) → r ≡ told p → GoodEnd d h full text p → OnOk r ((file : File) × Derives d h full text file)
  from-ok (Ok u) (Ok file) e g = (file, g)
  from-ok (Ok u) (Err f) e g = cc e
  from-ok (Err f) p e g = tt

  from-err : (r : Result (Unit {0}) StrictFault) (p : Result File StrictFault) → r ≡ told p → GoodEnd d h full text p → IfErr r (λ f. HasFault d h full text f)
  from-err (Ok u) p e g = tt
  from-err (Err f) (Ok file) e g = cc e
  from-err (Err f) (Err x) e g =
      let same : f ≡ x = cc e in
      rw same g

  pub is-derived : (r : Result (Unit {0}) StrictFault) → r ≡ verdict d full (initial_standing h) text → OnOk r ((file : File) × Derives d h full text file)
  is-derived r e = from-ok r (parse d h full untaken text) (e ∙ verdict-parse d h full text) (sound d h full text)

  pub has-fault : (r : Result (Unit {0}) StrictFault) → r ≡ verdict d full (initial_standing h) text → IfErr r (λ f. HasFault d h full text f)
  has-fault r e = from-err r (parse d h full untaken text) (e ∙ verdict-parse d h full text) (sound d h full text)

  pub says-ok : Lawful d → (file : File) → Derives d h full text file → verdict d full (initial_standing h) text ≡ Ok tt
  says-ok law file derives = verdict-parse d h full text ∙ ap told (derived d law h full text file derives)

  pub says-err : Lawful d → (f : StrictFault) → HasFault d h full text f → verdict d full (initial_standing h) text ≡ Err f
  says-err law f derives = verdict-parse d h full text ∙ ap told (faulty d law h full text f derives)
