use Rattle.std.proofs.Common.{◌≡◌, ◌∙◌, ap, length, refl, subst, sym, [], Option, Some, None, unwrap_or, codes, is_some, option_map, rules, Bool, Bor, List}
use Rattle.std.proofs.lemmas.List.{length-map}
use Rattle.clap.specs.Words.{Text, first_value, found_of}
use Rattle.rj_line.specs.Line.{AreSettings, nulls_or, texts_found}
use Rattle.rj_line.specs.Types.{AreTypesOf}
use Rattle.rj_line.specs.declared.form.Form.{Form}
use Rattle.rj_settings.specs.declared.types.entry.TypeEntry.{TypeEntry}
use Rattle.rj_line.proofs.LineFacts.{chosen_fault, few_given, left_list_fault, left_nulls_fault, right_list_fault, right_nulls_fault, shared_list_fault}
use Rattle.rj_line.proofs.line.request_of.Goals as goal

-- the value of an option, or its default
value-or : (v : Option Text) (o : Option (Bor Text)) (u d : Bor Text) (n : Text) → option_map (λ s. s.now) o ≡ v → u ≡ unwrap_or o d → d.now ≡ n → u.now ≡ unwrap_or v n
value-or v o u d n is got default = ap (λ (s : Bor Text). s.now) got ∙ (shown o ∙ ap (λ x. unwrap_or x n) is)
  where
    shown : (o : Option (Bor Text)) → (unwrap_or o d).now ≡ unwrap_or (option_map (λ s. s.now) o) n
    shown None = default
    shown (Some x) = refl

-- an option has a value where its text is found
same-given : (v : Option Text) (o : Option (Bor Text)) → option_map (λ s. s.now) o ≡ v → is_some o ≡ is_some v
same-given v None is = ap is_some is
same-given v (Some x) is = ap is_some is

-- the types of a side, by the same list for both tables
same-shared : (f : Form) (a b : List TypeEntry) (word : Option Text) (types : List TypeEntry) (undeclared : Bool) → a ≡ b → AreTypesOf f a word types undeclared
    → AreTypesOf f b word types undeclared
same-shared f a b word types undeclared same = subst (λ (s : List TypeEntry). AreTypesOf f s word types undeclared) same

pub returns-clause-request : goal.returns-clause-request
returns-clause-request c =
    let null = value-or _ c.get_str.result c.unwrap_or-null.result _ [] c.get_str.ensures c.unwrap_or-null.ensures refl in
    record {
      shared_types = c.in_ok-types.ensures.types;
      auto_types = c.is_auto.ensures;
      left_types = same-shared c.args.form c.as_slice-shared.result.now c.in_ok-types.types.items (first_value (found_of c.args.matches.now) (codes "left-types"))
          c.in_ok-left.left.entries.items c.in_ok-left.left.undeclared c.as_slice-shared.ensures.value c.in_ok-left.ensures.types;
      right_types = same-shared c.args.form c.as_slice-shared.result.now c.in_ok-types.types.items (first_value (found_of c.args.matches.now) (codes "right-types"))
          c.in_ok-right.right.entries.items c.in_ok-right.right.undeclared c.as_slice-shared.ensures.value c.in_ok-right.ensures.types;
      join = c.given.ensures;
      short = c.is_short.ensures;
      left_nulls = c.in-Ok.ensures.texts ∙ ap (nulls_or _) null;
      right_nulls = c.in-Ok-read_nulls.ensures.texts ∙ ap (nulls_or _) null;
      few_nulls = (c.in-Ok.ensures.few, c.in-Ok-read_nulls.ensures.few);
      out_null = value-or _ c.get_str-2.result c.unwrap_or.result c.unwrap_or-null.result _ c.get_str-2.ensures c.unwrap_or.ensures null;
      left_delimiter = c.in-Ok-chosen_of.ensures.delimiters.left;
      right_delimiter = c.in-Ok-chosen_of.ensures.delimiters.right;
      out_delimiter = c.in-Ok-chosen_of.ensures.delimiters.out;
      strict = c.strictness_of.ensures;
      settings = subst (λ n. AreSettings n (first_value (found_of c.args.matches.now)) c.settings_of.result) c.default_workers.ensures.workers c.settings_of.ensures;
      hash = c.hash_of.ensures;
      choice = c.in-Ok-chosen_of.ensures.choice;
      expectation = c.expectation_of.ensures;
      report = c.is_given.ensures;
      tells_pieces = c.is_some.ensures ∙ same-given _ c.get_str-3.result c.get_str-3.ensures;
    }

pub returns-in-Err-clause-fault : goal.returns-in-Err-clause-fault
returns-in-Err-clause-fault c =
    left_nulls_fault c.args.form (first_value (found_of c.args.matches.now)) (texts_found (found_of c.args.matches.now)) c.in-Err.fault (
      (c.in_ok-types.types.items, c.in_ok-types.ensures.types),
      (c.in_ok-left.ensures.types.listed, c.in_ok-left.ensures.types.given),
      (c.in_ok-right.ensures.types.listed, c.in_ok-right.ensures.types.given),
    ) c.in-Err.ensures.fault

pub returns-in-Err-read_nulls-clause-fault : goal.returns-in-Err-read_nulls-clause-fault
returns-in-Err-read_nulls-clause-fault c =
    let own = texts_found (found_of c.args.matches.now) (codes "left-null") in
    let count : length c.in-Ok.nulls.items ≡ length (nulls_or own c.unwrap_or-null.result.now) =
    sym (length-map c.in-Ok.nulls.items (λ (n : Bor Text). n.now)) ∙ ap length c.in-Ok.ensures.texts in
    right_nulls_fault c.args.form (first_value (found_of c.args.matches.now)) (texts_found (found_of c.args.matches.now)) c.in-Err-read_nulls.fault (
      (c.in_ok-types.types.items, c.in_ok-types.ensures.types),
      (c.in_ok-left.ensures.types.listed, c.in_ok-left.ensures.types.given),
      (c.in_ok-right.ensures.types.listed, c.in_ok-right.ensures.types.given),
    ) (few_given own c.unwrap_or-null.result.now _ count c.in-Ok.ensures.few) c.in-Err-read_nulls.ensures.fault

pub returns-in-Err-chosen_of-clause-fault : goal.returns-in-Err-chosen_of-clause-fault
returns-in-Err-chosen_of-clause-fault c =
    let found = found_of c.args.matches.now in
    let null = c.unwrap_or-null.result.now in
    let lefts : length c.in-Ok.nulls.items ≡ length (nulls_or (texts_found found (codes "left-null")) null) =
    sym (length-map c.in-Ok.nulls.items (λ (n : Bor Text). n.now)) ∙ ap length c.in-Ok.ensures.texts in
    let rights : length c.in-Ok-read_nulls.nulls.items ≡ length (nulls_or (texts_found found (codes "right-null")) null) =
    sym (length-map c.in-Ok-read_nulls.nulls.items (λ (n : Bor Text). n.now)) ∙ ap length c.in-Ok-read_nulls.ensures.texts in
    chosen_fault c.args.form (first_value found) (texts_found found) c.in-Err-chosen_of.fault (
      (
        (c.in_ok-types.types.items, c.in_ok-types.ensures.types),
        (c.in_ok-left.ensures.types.listed, c.in_ok-left.ensures.types.given),
        (c.in_ok-right.ensures.types.listed, c.in_ok-right.ensures.types.given),
      ),
      few_given _ null _ lefts c.in-Ok.ensures.few,
      few_given _ null _ rights c.in-Ok-read_nulls.ensures.few,
    ) c.in-Err-chosen_of.ensures.fault

pub returns-in_err-types-clause-fault : goal.returns-in_err-types-clause-fault
returns-in_err-types-clause-fault c =
    let told = shared_list_fault c.args.form (first_value (found_of c.args.matches.now)) (texts_found (found_of c.args.matches.now))
    c.in_err-types.field-0.0 c.in_err-types.ensures.fault in
    search (rules, told)

pub returns-in_err-left-clause-fault : goal.returns-in_err-left-clause-fault
returns-in_err-left-clause-fault c =
    let told = left_list_fault c.args.form (first_value (found_of c.args.matches.now)) (texts_found (found_of c.args.matches.now))
    c.in_err-left.field-0.0 (c.in_ok-types.types.items, c.in_ok-types.ensures.types) c.in_err-left.ensures.fault in
    search (rules, told)

pub returns-in_err-right-clause-fault : goal.returns-in_err-right-clause-fault
returns-in_err-right-clause-fault c =
    let told = right_list_fault c.args.form (first_value (found_of c.args.matches.now)) (texts_found (found_of c.args.matches.now))
    c.in_ok-left.ensures.types.listed c.in_err-right.field-0.0 (c.in_ok-types.types.items, c.in_ok-types.ensures.types) c.in_ok-left.ensures.types.given
    c.in_err-right.ensures.fault in
    search (rules, told)
