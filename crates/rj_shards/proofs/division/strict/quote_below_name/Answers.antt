use Rattle.std.proofs.Common.{◌≡◌, ◌∙◌, ◌++◌, ◌∷◌, [], List, ℕ, ap, drop, subst, sym, true, lit<}
use Rattle.std.proofs.lemmas.Result.{IfOk-weaker}
use Rattle.csv.specs.Reading.{records, strip_bom}
use Rattle.rj_csv_io.specs.Grammar.{Derives, may_delimit}
use Rattle.rj_csv_io.specs.JoinedTexts.{joined}
use Rattle.rj_csv_io.specs.StrictReading.{config_of}
use Rattle.rj_csv_io.specs.declared.strict.header.HeaderPlace.TheVariants.{First}
use Rattle.rj_csv_io.proofs.StrictLawFacts.{joined_texts, reads_quoted_records}
use Rattle.rj_shards.proofs.BlockFacts.{name-derived, name_file, under-one, unmarked}
use Rattle.rj_shards.proofs.division.strict.quote_below_name.Goals as goal

pub quote_empty_lines-requires : goal.quote_empty_lines-requires
quote_empty_lines-requires c =
    let text = c.args.text.now in
    let is : c.as_slice.result.now ≡ 120 ∷ 10 ∷ text =
    c.as_slice.ensures.value ∙ (c.in_ok-extend_from_slice-2.ensures.items ∙ ap (λ (x : List ℕ). x ++ text) (c.in_ok-extend_from_slice.ensures.items ∙ ap (λ (x : List ℕ). x ++ (120 ∷ 10 ∷ [])) c.new-named.ensures.items)) in
    let d = c.requires in
    let by = c.args.delimiter in
    let may = subst (λ (x : ℕ). may_delimit x ≡ true) c.byte-byte.ensures.value c.byte-byte.ensures.lawful in
    let whole = joined_texts by First d.1 (120 ∷ 10 ∷ []) text name_file d.2 may (name-derived by may) (lit< tt) (under-one by d.0 d.1 text d.2 d.3 d.4) in
    (d.1, joined name_file d.2, subst (λ (x : List ℕ). Derives by First d.1 x (joined name_file d.2)) (sym (ap strip_bom is ∙ unmarked text)) whole)

pub returns : goal.returns
returns c =
    let text = c.args.text.now in
    let is : c.as_slice.result.now ≡ 120 ∷ 10 ∷ text =
    c.as_slice.ensures.value ∙ (c.in_ok-extend_from_slice-2.ensures.items ∙ ap (λ (x : List ℕ). x ++ text) (c.in_ok-extend_from_slice.ensures.items ∙ ap (λ (x : List ℕ). x ++ (120 ∷ 10 ∷ [])) c.new-named.ensures.items)) in
    let by = c.args.delimiter in
    let may = subst (λ (x : ℕ). may_delimit x ≡ true) c.byte-byte.ensures.value c.byte-byte.ensures.lawful in
    IfOk-weaker c.quote_empty_lines.result _ _ (λ v told names full file low d.
    let whole = joined_texts by First full (120 ∷ 10 ∷ []) text name_file file may (name-derived by may) (lit< tt) (under-one by names full text file low d) in
    let quoted = told full (joined name_file file) (subst (λ (x : List ℕ). Derives by First full x (joined name_file file)) (sym (ap strip_bom is ∙ unmarked text)) whole) in
    ap (λ (x : List ℕ). drop 1 (records (config_of by) x)) quoted ∙ ap (λ (x : List (List (List ℕ))). drop 1 x) (reads_quoted_records by First full (120 ∷ 10 ∷ text) (joined name_file file) may whole))
    c.quote_empty_lines.ensures
