use Rattle.std.proofs.Common.{◌∙◌, ◌++◌, ◌∷◌, [], ℕ, List, ap, sym}
use Rattle.std.proofs.Common.{append-nil}
use Rattle.std.proofs.lemmas.List.{map-append}
use Rattle.std.specs.Prelude.{string_bytes}
use Rattle.rj_csv_io.specs.Internal.NameColumns.{column_in, told_of}
use Rattle.rj_csv_io.specs.Named as names
use Rattle.rj_csv_io.specs.declared.names.column.GivenName.{GivenName}
use Rattle.rj_csv_io.specs.declared.names.column.NamedColumn.{NamedColumn}
use Rattle.rj_csv_io.proofs.NamingFacts.{given-no, given-one}
use Rattle.rj_csv_io.proofs.names.naming.add_given.Goals as goal

pub returns-in-Written : goal.returns-in-Written
returns-in-Written c =
    let none = ap (λ (n : NamedColumn). names.given_from c.args.column (column_in n ∷ [])) c.in-Written.is ∙ given-no c.args.column c.in-Written.field-0.now in
    sym (append-nil (told_of c.args.given.now.items)) ∙ ap (λ (l : List (ℕ × List ℕ)). told_of c.args.given.now.items ++ l) (sym none)

pub returns : goal.returns
returns c =
    let one = ap (λ (n : NamedColumn). names.given_from c.args.column (column_in n ∷ [])) c.in-Given.is ∙ given-one c.args.column (string_bytes c.in-Given.name) in
    ap told_of c.in_ok-push.ensures.items
    ∙ (map-append (λ (g : GivenName). (g.column, string_bytes g.name)) c.args.given.now.items _
    ∙ ap (λ (l : List (ℕ × List ℕ)). told_of c.args.given.now.items ++ l) (ap (λ (n : List ℕ). (c.args.column, n) ∷ []) c.in_ok-name-in-Given.ensures.cases ∙ sym one))
