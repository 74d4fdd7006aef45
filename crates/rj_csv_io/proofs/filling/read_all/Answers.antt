use Rattle.std.proofs.Common.{[], Ok, ap, refl, arith, inl, inr}
use Rattle.std.proofs.lemmas.Bool.{cases_Bool}
use Rattle.std.proofs.KnownBytes.{Consumes-nil, Consumes-all}
use Rattle.rj_csv_io.proofs.filling.read_all.Goals as goal

-- no list has room for 2^64 - 1 bytes, so the device is at its end
pub returns-clause-end : goal.returns-clause-end
returns-clause-end g c = elim (cases_Bool c.in_ok-read_up_to.field-0) [
  | inl end ↦ c.in_ok-read_up_to.ensures.end (ap Ok end)
  | inr full ↦ let much = c.in_ok-read_up_to.ensures.full (ap Ok full) in absurd (omega (arith, much, c.read_up_to.new.bytes.small))
]

pub returns-clause-bytes : goal.returns-clause-bytes
returns-clause-bytes g c =
    let read = c.in_ok-read_up_to.ensures.bytes (g.I.Input.tells c.args.input.now) (rw c.likely_room-bytes.ensures (Consumes-nil (g.I.Input.tells c.args.input.now))) in
    Consumes-all (g.I.Input.tells c.args.input.now) (g.I.Input.tells c.read_up_to.new.input) c.read_up_to.new.bytes.items [] c.read_up_to.new.bytes.items read (returns-clause-end g c) refl
