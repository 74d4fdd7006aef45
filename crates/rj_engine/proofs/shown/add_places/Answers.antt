use Rattle.std.proofs.Common.{◌≡◌, ◌+◌, ◌-◌, ◌++◌, ◌∙◌, [], ℕ, List, Vec, Global, ap, append-nil, arith, refl, drop, get_or, length, map, subst, sym, take}
use Rattle.std.specs.Prelude.{OnOk}
use Rattle.std.specs.List.{flat_map}
use Rattle.std.proofs.lemmas.List.{length-append, take_all}
use Rattle.rj_columns.specs.Contents.{Content, content_of}
use Rattle.rj_engine.specs.declared.joined.JoinedRow.{JoinedRow}
use Rattle.rj_engine.specs.declared.joined.JoinedRow.TheVariants.{Both}
use Rattle.rj_engine.specs.Cells.{IsMemberOf, joined_cell, members_rows}
use Rattle.rj_engine.specs.Join.{JoinedValue, rows_in}
use Rattle.rj_engine.specs.Shown.{counted_from}
use Rattle.rj_engine.proofs.MatchFacts.{cells_of_all, cells_of_list, first, first_more, first_within, holds_in_list, lone_hold, matches_hold, none_between}
use Rattle.rj_engine.proofs.shown.add_places.Goals as goal

pub loop-range-init : goal.loop-range-init
loop-range-init c =
    let f : JoinedRow → Content = λ row. joined_cell c.args.tables.now.left.now c.args.tables.now.right.now (counted_from c.args.tables.now.first row) c.args.origin in record {
      before = refl;
      cells = sym (append-nil (map content_of c.args.cells.now.items))
          ∙ ap (λ (ps : List (ℕ × ℕ)). map content_of c.args.cells.now.items ++ map (λ p. f (Both p.0 p.1)) ps) (sym (none_between c.ranges-ranges.result.now c.args.places.start c.args.places.end));
    }

pub add_members-requires-clause-rows : goal.add_members-requires-clause-rows
add_members-requires-clause-rows c =
    let P : JoinedRow → Type 0 = λ row. IsMemberOf c.args.tables.now.left.now c.args.tables.now.right.now (counted_from c.args.tables.now.first row) in
    let v : JoinedValue = c.args.joined.now.members in let ranges : List (Vec (ℕ × ℕ) Global) = c.ranges-ranges.result.now in
    let from : ℕ = c.args.places.start in let to : ℕ = c.args.places.end in let i : ℕ = c.loop-range.range-index in let x = c.range-item.result in
    let whole : flat_map (λ (l : Vec (ℕ × ℕ) Global). l.items) ranges ≡ v.pairs = c.ranges-ranges.ensures.all ∙ c.kept_pairs.ensures in
    let own = c.deref.ensures.value ∙ ap (λ (l : Vec (ℕ × ℕ) Global). l.items) c.range-item.is in
    let rows = c.of_range-members.ensures
    ∙ (λ t. rows_in (record { pairs = drop (from - c.loop-range.invariant.before t) (take (to - c.loop-range.invariant.before t) (own t)); lone_left = []; lone_right = [] })) in
    holds_in_list P ranges from to i x (members_rows c.of_range-members.result) c.requires.order c.loop-range-test.true
    (matches_hold P v from to c.requires.order c.requires.rows (flat_map (λ (l : Vec (ℕ × ℕ) Global). l.items) ranges) whole) rows

pub overflow_add-before : goal.overflow_add-before
overflow_add-before c =
    let ranges : List (Vec (ℕ × ℕ) Global) = c.ranges-ranges.result.now in let i : ℕ = c.loop-range.range-index in let x = c.range-item.result in
    let long = ap length (first_more ranges i x c.loop-range-test.true) ∙ length-append (first ranges i) (get_or ranges i x).items in
    let here = ap (λ (l : Vec (ℕ × ℕ) Global). length l.items) c.range-item.is in
    let all = ap length c.ranges-ranges.ensures.all in
    omega (arith, c.loop-range.invariant.before, c.len-before.ensures, long, here, first_within ranges (i + 1), all, c.ranges-ranges.ensures.few)

pub loop-range-preserved : goal.loop-range-preserved
loop-range-preserved c =
    let f : JoinedRow → Content = λ row. joined_cell c.args.tables.now.left.now c.args.tables.now.right.now (counted_from c.args.tables.now.first row) c.args.origin in
    let ranges : List (Vec (ℕ × ℕ) Global) = c.ranges-ranges.result.now in
    let from : ℕ = c.args.places.start in let to : ℕ = c.args.places.end in let i : ℕ = c.loop-range.range-index in let x = c.range-item.result in
    let own = c.deref.ensures.value ∙ ap (λ (l : Vec (ℕ × ℕ) Global). l.items) c.range-item.is in
    let rows = c.of_range-members.ensures
    ∙ (λ t. rows_in (record { pairs = drop (from - c.loop-range.invariant.before t) (take (to - c.loop-range.invariant.before t) (own t)); lone_left = []; lone_right = [] })) in
    let long = ap length (first_more ranges i x c.loop-range-test.true) ∙ length-append (first ranges i) (get_or ranges i x).items in
    let here = ap (λ (l : Vec (ℕ × ℕ) Global). length l.items) c.range-item.is in record {
      before = omega (arith, c.loop-range.invariant.before, c.len-before.ensures, long, here);
      cells = c.in_ok-add_members.ensures
          ∙ cells_of_list f ranges from to i x (members_rows c.of_range-members.result) (map content_of c.args.cells.now.items) (map content_of c.loop-range.cells.items) c.requires.order c.loop-range-test.true
          c.loop-range.invariant.cells rows;
    }

pub add_members-requires-2-clause-rows : goal.add_members-requires-2-clause-rows
add_members-requires-2-clause-rows c =
    let P : JoinedRow → Type 0 = λ row. IsMemberOf c.args.tables.now.left.now c.args.tables.now.right.now (counted_from c.args.tables.now.first row) in
    lone_hold P c.args.joined.now.members c.args.places.start c.args.places.end c.requires.order c.requires.rows (members_rows c.lone_members.result) c.lone_members.ensures

pub returns : goal.returns
returns c =
    let f : JoinedRow → Content = λ row. joined_cell c.args.tables.now.left.now c.args.tables.now.right.now (counted_from c.args.tables.now.first row) c.args.origin in
    let v : JoinedValue = c.args.joined.now.members in let ranges : List (Vec (ℕ × ℕ) Global) = c.ranges-ranges.result.now in
    let whole = ap (flat_map (λ (l : Vec (ℕ × ℕ) Global). l.items)) (take_all c.loop-range.range-index ranges (omega (arith, c.loop-range-test.false))) ∙ (c.ranges-ranges.ensures.all ∙ c.kept_pairs.ensures) in
    subst (λ more. OnOk c.add_members-2.result (map content_of c.add_members-2.new.cells.items ≡ more))
    (cells_of_all f v (first ranges c.loop-range.range-index) c.args.places.start c.args.places.end (members_rows c.lone_members.result) (map content_of c.args.cells.now.items) (map content_of c.loop-range.cells.items)
    c.requires.order whole c.loop-range.invariant.cells c.lone_members.ensures)
    c.add_members-2.ensures
