use Rattle.std.proofs.Common.{◌≡◌, ◌≤◌, [], ℕ, List, length, map, rules, arith, refl, None, Ok, Bor, ap}
use Rattle.std.proofs.lemmas.Bool.{le-ltb, eq-eqb}
use Rattle.std.proofs.lemmas.List.{length-map}
use Rattle.rj_columns.specs.declared.cell.ColumnType.{ColumnType}
use Rattle.rj_columns.specs.Names.{empty_table, name_fault}
use Rattle.std.proofs.lemmas.List.Elements.{All-nil}
use Rattle.rj_columns.specs.Tables.{TableValue, FitsTypes}
use Rattle.rj_columns.proofs.builder.TableBuilder.new.Goals as goal

empty_table-ok : (names : List (List ℕ)) (types : List ColumnType) → length names ≤ 256 → name_fault [] names ≡ None → length names ≡ length types
    → empty_table names types ≡ Ok record { names = names; types = types; rows = [] }
empty_table-ok names types few good same = rw (le-ltb 256 (length names) few, good, eq-eqb (length names) (length types) same) refl

pub returns-in-Ok-new-clause-table : goal.returns-in-Ok-new-clause-table
returns-in-Ok-new-clause-table c =
    let names = c.in-Ok.ensures.names in
    let size : length (map (λ (n : Bor (List ℕ)). n.now) c.args.names.now) ≡ length c.args.names.now = length-map c.args.names.now (λ (n : Bor (List ℕ)). n.now) in
    let count : length c.in-Ok.names ≡ length c.args.types.now = search rules in
    let shown : length c.in-Ok.names ≡ length (map (λ (n : Bor (List ℕ)). n.now) c.args.names.now) = ap length names.0 in
    let made = empty_table-ok (map (λ (n : Bor (List ℕ)). n.now) c.args.names.now) c.args.types.now (omega arith) names.1 (omega arith) in
    rw (names.0, c.in-Ok-new.ensures, c.new-in-Ok-new.ensures) (made, refl)

pub invariant_of-result : goal.invariant_of-result
invariant_of-result c =
    let names = c.in-Ok.ensures.names in
    let size : length (map (λ (n : Bor (List ℕ)). n.now) c.args.names.now) ≡ length c.args.names.now = length-map c.args.names.now (λ (n : Bor (List ℕ)). n.now) in
    let count : length c.in-Ok.names ≡ length c.args.types.now = search rules in
    let shown : length c.in-Ok.names ≡ length (map (λ (n : Bor (List ℕ)). n.now) c.args.names.now) = ap length names.0 in
    rw (c.in-Ok-new.ensures, c.new-in-Ok-new.ensures) record {
      few = omega arith;
      named = omega arith;
      lawful = rw names.0 names.1;
      alike = All-nil (λ (s : TableValue). s.types ≡ c.args.types.now);
      typed = All-nil (FitsTypes c.args.types.now);
      within = omega arith;
    }
