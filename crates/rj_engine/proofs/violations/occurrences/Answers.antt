use Rattle.std.proofs.Common.{◌≡◌, ◌<◌, ◌==◌, ◌+◌, ◌∙◌, ℕ, length, take, get_or, arith, refl}
use Rattle.std.proofs.lemmas.List.{get_or_read, length-set, length-take-le}
use Rattle.std.proofs.lemmas.List.Sums.{count_by-le-length}
use Rattle.rj_engine.specs.Violations.{times}
use Rattle.rj_engine.proofs.Repeats.{counted-more}
use Rattle.rj_engine.proofs.violations.occurrences.Goals as goal

pub overflow_add-index_mut : goal.overflow_add-index_mut
overflow_add-index_mut c =
    let numbers = c.args.numbers.now in
    let i = c.loop-number.number-index in
    let x : ℕ = get_or numbers i 0 in
    let low : x < c.args.count = c.requires i 0 c.loop-number-test.true in
    let within : x < length c.loop-number.counts.items = omega (arith, low, c.loop-number.invariant.len) in
    let was : c.index_mut.result.now ≡ times x (take i numbers) =
    get_or_read c.loop-number.counts.items x c.index_mut.result.now within c.index_mut.ensures.value 0 ∙ c.loop-number.invariant.each x low in
    let most = count_by-le-length (λ (y : ℕ). y == x) (take i numbers) in
    let few = length-take-le i numbers (omega arith) in
    omega (arith, was, most, few)

pub loop-number-preserved : goal.loop-number-preserved
loop-number-preserved c =
    let numbers = c.args.numbers.now in
    let i = c.loop-number.number-index in
    let counts = c.loop-number.counts.items in
    let x : ℕ = get_or numbers i 0 in
    let low : x < c.args.count = c.requires i 0 c.loop-number-test.true in
    let within : x < length counts = omega (arith, low, c.loop-number.invariant.len) in
    record {
      len = length-set counts x (c.index_mut.result.now + 1) ∙ c.loop-number.invariant.len;
      each = λ k below. counted-more numbers counts i x c.index_mut.result.now k c.loop-number-test.true refl within c.index_mut.ensures.value (c.loop-number.invariant.each k below);
    }
