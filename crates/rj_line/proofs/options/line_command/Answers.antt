use Rattle.std.proofs.Common.{rules, ap, refl, codes, true, false, subst, sym, Bool, Bor, List, [], ◌≡◌, ◌∙◌, ◌∷◌, ◌++◌}
use Rattle.clap.specs.declared.builder.command.Command.{Command}
use Rattle.rj_line.specs.declared.form.Form.{Form}
use Rattle.std.proofs.lemmas.Result.{IfOk-weaker}
use Rattle.clap.specs.Words.{Text, app_of, new_app}
use Rattle.clap.specs.Simple.{on_top, app_of_fields}
use Rattle.rj_line.specs.Options.{IsBare, IsChain, OptionWords, IsLineCommand, common_rules, explain_rules, option_rules, own_rules, with_rules}
use Rattle.rj_line.proofs.ChainFacts.{chain_app, chain_on}
use Rattle.rj_line.proofs.ValueFacts.{all_plain}
use Rattle.rj_line.proofs.options.line_command.Goals as goal

-- the word of that option, where it takes none
abbrev no_words : Bor (List (Bor Text))
no_words = record { ref_ptr = (0, 0); now = record { ref_ptr = (0, 0); now = codes "all" } ∷ [] }

-- the command with a last option is the line's
whole : (f : Form) (b : Bool) (h : OptionWords) (start own common command : Command) → IsBare start
    → app_of start ≡ on_top (λ s. record s { has_version = true; no_binary_name = true }) (new_app (codes "radixjoin"))
    → IsChain start (own_rules f) own → IsChain own (common_rules h) common → IsChain common (explain_rules b h) command → IsLineCommand f b command
whole f b h start own common command bare base owned shared last =
    let chain = chain_on start own command (own_rules f) (common_rules h ++ explain_rules b h) owned (chain_on own common command (common_rules h) (explain_rules b h) shared last) in
    record {
      start = start;
      option_words = h;
      bare = bare;
      chain = chain;
      app = chain_app start command (option_rules f b h) chain (all_plain f b h) ∙ ap (λ a. with_rules a (option_rules f b h)) base;
    }

pub returns-then-by_word : goal.returns-then-by_word
returns-then-by_word c =
    let f = c.args.form in
    let words : OptionWords = record { hashes = _; are_hashes = refl; levels = _; are_levels = refl; orders = _; are_orders = refl; sides = _; are_sides = refl; matchings = _; are_matchings = refl; explained = _; are_explained = refl } in
    let start = c.no_binary_name-command.result in
    let versioned : app_of c.version.result ≡ on_top (λ s. record s { has_version = true }) (new_app (codes "radixjoin")) =
    ap app_of_fields c.version.ensures ∙ ap (on_top (λ s. record s { has_version = true })) (ap app_of_fields c.override_help.ensures ∙ c.new.ensures.app) in
    let base : app_of start ≡ on_top (λ s. record s { has_version = true; no_binary_name = true }) (new_app (codes "radixjoin")) =
    ap app_of_fields c.no_binary_name-command.ensures ∙ ap (on_top (λ s. record s { no_binary_name = true })) versioned in
    IfOk-weaker c.with_options-then-by_word.result _ (IsLineCommand f c.args.by_word) (λ r h.
    subst (λ b. IsLineCommand f b r) (sym c.if-by_word.true)
    (whole f true words start c.in_ok-command.command c.in_ok-command-2.command r
    (record { args = search rules; groups = search rules; globals = search rules; negates = search rules }) base
    c.in_ok-command.ensures c.in_ok-command-2.ensures h)) c.with_options-then-by_word.ensures

pub returns-else-by_word : goal.returns-else-by_word
returns-else-by_word c =
    let f = c.args.form in
    let words : OptionWords = record { hashes = _; are_hashes = refl; levels = _; are_levels = refl; orders = _; are_orders = refl; sides = _; are_sides = refl; matchings = _; are_matchings = refl; explained = no_words; are_explained = refl } in
    let start = c.no_binary_name-command.result in
    let versioned : app_of c.version.result ≡ on_top (λ s. record s { has_version = true }) (new_app (codes "radixjoin")) =
    ap app_of_fields c.version.ensures ∙ ap (on_top (λ s. record s { has_version = true })) (ap app_of_fields c.override_help.ensures ∙ c.new.ensures.app) in
    let base : app_of start ≡ on_top (λ s. record s { has_version = true; no_binary_name = true }) (new_app (codes "radixjoin")) =
    ap app_of_fields c.no_binary_name-command.ensures ∙ ap (on_top (λ s. record s { no_binary_name = true })) versioned in
    IfOk-weaker c.with_options-else-by_word.result _ (IsLineCommand f c.args.by_word) (λ r h.
    subst (λ b. IsLineCommand f b r) (sym c.if-by_word.false)
    (whole f false words start c.in_ok-command.command c.in_ok-command-2.command r
    (record { args = search rules; groups = search rules; globals = search rules; negates = search rules }) base
    c.in_ok-command.ensures c.in_ok-command-2.ensures h)) c.with_options-else-by_word.ensures
