use Rattle.std.proofs.Common.{◌≡◌, ◌∙◌, ◌++◌, ◌∷◌, [], ℕ, List, ap, append_assoc, codes, sym}
use Rattle.std.specs.Prelude.{Some, string_bytes}
use Rattle.std.proofs.lemmas.Result.{IfOk-weaker}
use Rattle.rj_files.specs.Texts.{system_line}
use Rattle.rj_files.proofs.named.told_by_system.Goals as goal

-- a name with words behind it, as it is written
with_words : (name words text : List ℕ) → text ≡ codes "  " ++ (name ++ (codes ": " ++ (words ++ 10 ∷ []))) → text ≡ system_line name (Some words)
with_words name words text is = is ∙ ap (λ (l : List ℕ). codes "  " ++ l) (sym (append_assoc name (codes ": " ++ words) (10 ∷ [])))

pub returns-in-Some-split_once-clause-line : goal.returns-in-Some-split_once-clause-line
returns-in-Some-split_once-clause-line c =
    let words = c.in-Some-split_once.words.now in
    IfOk-weaker c.format-in-Some-split_once.result _ _ (λ s is. (Some words, with_words c.args.name.now words (string_bytes s) is)) c.format-in-Some-split_once.ensures.ok

pub returns-in-Some-split_once-clause-words : goal.returns-in-Some-split_once-clause-words
returns-in-Some-split_once-clause-words c =
    let words = c.in-Some-split_once.words.now in
    rw c.in-Some.is
    (IfOk-weaker c.format-in-Some-split_once.result _ _ (λ s is. (words, with_words c.args.name.now words (string_bytes s) is)) c.format-in-Some-split_once.ensures.ok)

pub returns-clause-line : goal.returns-clause-line
returns-clause-line c =
    let words = string_bytes c.in_ok-words.words in
    IfOk-weaker c.format-in-None.result _ _ (λ s is. (Some words, with_words c.args.name.now words (string_bytes s) is)) c.format-in-None.ensures.ok

pub returns-clause-words : goal.returns-clause-words
returns-clause-words c =
    let words = string_bytes c.in_ok-words.words in
    rw c.in-Some.is
    (IfOk-weaker c.format-in-None.result _ _ (λ s is. (words, with_words c.args.name.now words (string_bytes s) is)) c.format-in-None.ensures.ok)
