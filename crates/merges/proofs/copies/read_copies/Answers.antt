use Rattle.std.proofs.Common.{◌≡◌, Bor, List, Option, ℕ, length, option_map, rules, subst, sym}
use Rattle.merges.specs.Copies.{AreCopiesOf}
use Rattle.merges.proofs.CopyFacts.{listed, unlisted}
use Rattle.merges.proofs.copies.read_copies.Goals as goal

pub returns-clause-copies : goal.returns-clause-copies
returns-clause-copies c =
    let read = rw c.as_slice.ensures.value at c.in-Ok.ensures.copies in
    let count : length c.in-Ok.all.items ≡ c.args.files = search rules in
    subst (λ (o : Option (Bor (List ℕ))). AreCopiesOf (option_map (λ (l : Bor (List ℕ)). l.now) o) c.args.files c.in-Ok.all.items) (sym c.in-Some.is)
    (listed c.in_ok-entries.entries.items c.in-Some.list.now c.in-Ok.all.items c.in_ok-entries.ensures read, count)

pub returns-in-Err-clause-bad : goal.returns-in-Err-clause-bad
returns-in-Err-clause-bad c is all given =
    let bad = rw c.as_slice.ensures.value at (c.in-Err.ensures.bad is) in
    let told = subst (λ (o : Option (Bor (List ℕ))). AreCopiesOf (option_map (λ (l : Bor (List ℕ)). l.now) o) c.args.files all) c.in-Some.is given in
    unlisted c.in_ok-entries.entries.items c.in-Some.list.now all c.in_ok-entries.ensures bad told.0
