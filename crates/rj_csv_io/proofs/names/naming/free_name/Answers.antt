use Rattle.std.proofs.Common.{◌≡◌, ◌∙◌, ◌<◌, ◌+◌, ◌-◌, ◌++◌, ℕ, List, Bor, true, false, ap, arith, length, map, refl, sym}
use Rattle.std.specs.Prelude.{string_bytes}
use Rattle.rj_csv_io.specs.Internal.NameColumns.{columns_in}
use Rattle.rj_csv_io.specs.Named as names
use Rattle.rj_csv_io.proofs.NamingFacts.{free-here, free-last, free-more, ok-weaker, taken-split}
use Rattle.rj_csv_io.proofs.names.naming.free_name.Goals.{else-not-is_taken-via-then-not-is_taken+else-not-is_given, else-not-is_taken-via-else-not-is_taken}
use Rattle.rj_csv_io.proofs.names.naming.free_name.Goals as goal

pub returns-then-not-is_given : goal.returns-then-not-is_given
returns-then-not-is_given c =
    let fields = map (λ (t : Bor (List ℕ)). t.now) c.args.fields.now in
    let columns = names.names_of (columns_in c.args.columns.now) in
    let stem = c.args.stem.now in
    let name = string_bytes c.in_ok-name.name in
    let tried = c.loop-tried.tried in
    let most = length c.args.fields.now + length c.args.columns.now in
    let none = taken-split fields columns name false false
    (sym c.if-not-is_taken.true ∙ (c.is_taken.ensures ∙ ap (names.is_taken fields) c.as_bytes.ensures.value))
    (sym c.if-not-is_given.true ∙ (c.is_given.ensures ∙ ap (names.is_taken columns) c.as_bytes-then-not-is_taken.ensures.value)) in
    let free : names.is_taken (fields ++ columns) (names.numbered stem (tried + 1)) ≡ false = ap (names.is_taken (fields ++ columns)) (sym c.in_ok-name.ensures) ∙ none in
    c.in_ok-name.ensures ∙ (sym (free-here (fields ++ columns) stem (tried + 1) (most - tried) free) ∙ c.loop-tried.invariant.told)

pub loop-tried-preserved : goal.loop-tried-preserved
loop-tried-preserved c =
    let fields = map (λ (t : Bor (List ℕ)). t.now) c.args.fields.now in
    let columns = names.names_of (columns_in c.args.columns.now) in
    let stem = c.args.stem.now in
    let name = string_bytes c.in_ok-name.name in
    let tried = c.loop-tried.tried in
    let most = length c.args.fields.now + length c.args.columns.now in
    let taken : names.is_taken (fields ++ columns) name ≡ true = elim c.else-not-is_taken.branch [
      | else-not-is_taken-via-then-not-is_taken+else-not-is_given w ↦ taken-split fields columns name false true
          (sym w.if-not-is_taken.true ∙ (c.is_taken.ensures ∙ ap (names.is_taken fields) c.as_bytes.ensures.value))
          (sym w.if-not-is_given.false ∙ (w.is_given.ensures ∙ ap (names.is_taken columns) w.as_bytes-then-not-is_taken.ensures.value))
      | else-not-is_taken-via-else-not-is_taken w ↦ taken-split fields columns name true (names.is_taken columns name)
          (sym w.if-not-is_taken.false ∙ (c.is_taken.ensures ∙ ap (names.is_taken fields) c.as_bytes.ensures.value)) refl
    ] in
    let here : names.is_taken (fields ++ columns) (names.numbered stem (tried + 1)) ≡ true = ap (names.is_taken (fields ++ columns)) (sym c.in_ok-name.ensures) ∙ taken in
    let within : tried < most = omega arith in
    let some : 0 < most - tried = omega arith in
    let less : most - (tried + 1) ≡ most - tried - 1 = omega arith in
    record {
      told = ap (names.free_from (fields ++ columns) stem (tried + 1 + 1)) less ∙ (sym (free-more (fields ++ columns) stem (tried + 1) (most - tried) some here) ∙ c.loop-tried.invariant.told);
      total = refl;
      within = omega arith;
    }

pub returns : goal.returns
returns c =
    let fields = map (λ (t : Bor (List ℕ)). t.now) c.args.fields.now in
    let columns = names.names_of (columns_in c.args.columns.now) in
    let stem = c.args.stem.now in
    let tried = c.loop-tried.tried in
    let most = length c.args.fields.now + length c.args.columns.now in
    let all : tried ≡ most = omega (arith, c.loop-tried.invariant.within) in
    let none : most - tried ≡ 0 = omega (arith, all) in
    let last = sym (free-last (fields ++ columns) stem (tried + 1) (most - tried) none) ∙ c.loop-tried.invariant.told in
    ok-weaker _ _ c.numbered-2.result (λ s is. is ∙ (ap (λ (n : ℕ). names.numbered stem (n + 1)) (sym all) ∙ last)) c.numbered-2.ensures
