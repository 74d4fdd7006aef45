use Rattle.std.proofs.Common.{◌≡◌, ◌∙◌, List, ℕ, ap, refl, subst}
use Rattle.std.specs.Option.{option_copied}
use Rattle.std.proofs.lemmas.Result.{IfOk-weaker}
use Rattle.rj_columns.specs.Tables.{TableValue}
use Rattle.rj_line.specs.declared.fault.Side.{Side}
use Rattle.rj_line.specs.declared.fault.Side.TheVariants as sides
use Rattle.rj_explain.specs.Names.{IsMeant}
use Rattle.rj_explain.specs.Unknown.{both_names, names_at, side_words, table_at}
use Rattle.rj_explain.proofs.unknown.words_of_lacking.Goals as goal

-- the names of a side's table
names-of : (s : Side) (left right : TableValue) → (table_at s left right).names ≡ names_at s (both_names left right)
names-of sides.Left left right = refl
names-of sides.Right left right = refl

pub returns : goal.returns
returns c =
    let side = c.args.side in
    let left = c.args.columns.now.left in
    let right = c.args.columns.now.right in
    let names = names_at side (both_names left right) in
    let name = option_copied c.in_ok-meant.meant in
    let same : c.of-table.result.now.names ≡ names = ap (λ (t : TableValue). t.names) c.of-table.ensures ∙ names-of side left right in
    let meant : IsMeant c.args.wanted.now names name =
    subst (λ (ns : List (List ℕ)). IsMeant c.args.wanted.now ns name) same c.in_ok-meant.ensures in
    IfOk-weaker c.words_of_side.result _ _
    (λ s told. (name, meant, told ∙ ap (λ (ns : List (List ℕ)). side_words side c.args.has.now ns name) same)) c.words_of_side.ensures
