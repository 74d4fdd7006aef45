use Rattle.std.proofs.Common.{◌≡◌, ◌∙◌, ◌+◌, ◌++◌, ◌∷◌, [], ap, sym, drop, false, get_or, Bool, Bor, Global, List, Vec, ℕ}
use Rattle.std.proofs.lemmas.List.{map-append}
use Rattle.shards.specs.Explained.{without_own}
use Rattle.shards.proofs.OwnFacts.{a-value, kept-word, next-word, own-option, texts}
use Rattle.shards.proofs.explaining.words_of_join.Goals as goal
use Rattle.shards.proofs.explaining.words_of_join.Goals.{then-is_own_value, else-is_own_value+then-is_own_option, else-is_own_value+else-is_own_option+in_ok-push}

pub loop-word-preserved : goal.loop-word-preserved
loop-word-preserved c =
    let words = c.args.words.now in
    let none : Bor (List ℕ) = record { ref_ptr = (0, 0); now = [] } in
    let word : List ℕ = (get_or words c.loop-word.word-index none).now in
    let rest : List (List ℕ) = texts (drop (c.loop-word.word-index + 1) words) in
    let kept : List (List ℕ) = texts c.loop-word.of_join.items in
    let is : Bool = c.loop-word.is_own_value in
    let now : Bool = c.if-is_own_value.is_own_value in
    let whole : kept ++ without_own is (word ∷ rest) ≡ without_own false (texts words) =
    ap (λ x. kept ++ without_own is x) (sym (next-word words c.loop-word.word-index none c.loop-word-test.true)) ∙ c.loop-word.invariant in
    let same = λ (x : Vec (Bor (List ℕ)) Global). texts x.items ++ without_own now rest in
    elim c.if-is_own_value.branch [
      | then-is_own_value w ↦ ap same w.of_join-is ∙ (a-value kept word rest is now w.if-is_own_value.true w.is_own_value-is ∙ whole)
      | else-is_own_value+then-is_own_option w ↦
          ap same w.of_join-is
          ∙ (own-option kept word rest is now w.is_own_option.result w.has_value-is_own_value.result w.if-is_own_value.false w.if-is_own_option.true w.is_own_option.ensures w.has_value-is_own_value.ensures w.is_own_value-is ∙ whole)
      | else-is_own_value+else-is_own_option+in_ok-push w ↦
          ap same w.of_join-is
          ∙ (ap (λ (x : List (Bor (List ℕ))). texts x ++ without_own now rest) w.in_ok-push.ensures.items
          ∙ (ap (λ x. x ++ without_own now rest) (map-append (λ (b : Bor (List ℕ)). b.now) c.loop-word.of_join.items (get_or words c.loop-word.word-index none ∷ []))
          ∙ (kept-word kept word rest is now w.is_own_option.result w.if-is_own_value.false w.if-is_own_option.false w.is_own_option.ensures w.is_own_value-is ∙ whole)))
    ]
