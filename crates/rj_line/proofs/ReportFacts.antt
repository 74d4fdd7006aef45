-- The text of a script's lines, line by line.
use Rattle.std.proofs.Common.{codes, ◌≡◌, ℕ, ◌<◌, ◌&&◌, nat_lt, Bool, true, false, cond, List, [], ◌∷◌, ◌++◌, length, map, filter, Option, Some, None, refl, ap, sym, ◌∙◌, append-nil, arith}
use Rattle.std.specs.Str.Lines.{lines}
use Rattle.std.proofs.lemmas.Bool.Decides.{nat_tests}
use Rattle.rj_exchange.specs.declared.ledger.parcel.Parcel.{Parcel}
use Rattle.rj_exchange.specs.Ledgers.{LedgerValue, answer_to, after_all}
use Rattle.rj_line.specs.Script.{reading, readings, parcels_of}
use Rattle.rj_line.specs.Report.{answer_text, answers_text}

pub answers_text-more : (v : LedgerValue) (r : Option Parcel) (rs : List (Option Parcel)) → answers_text v (r ∷ rs) ≡ answers_text v (r ∷ []) ++ answers_text (after_all v (parcels_of (r ∷ []))) rs
answers_text-more v None rs = ap (λ (t : List ℕ). t ++ answers_text v rs) (sym (append-nil (codes "unreadable" ++ 10 ∷ [])))
answers_text-more v (Some x) rs = ap (λ (t : List ℕ). t ++ answers_text (after_all v (x ∷ [])) rs) (sym (append-nil (answer_text (answer_to v x) ++ 10 ∷ [])))

pub after_all-more : (v : LedgerValue) (r : Option Parcel) (rs : List (Option Parcel)) → after_all v (parcels_of (r ∷ rs)) ≡ after_all (after_all v (parcels_of (r ∷ []))) (parcels_of rs)
after_all-more v None rs = refl
after_all-more v (Some x) rs = refl

some_line : (n : ℕ) → 0 < n → nat_lt 0 n ≡ true
some_line n h = grind (arith, nat_tests)

pub readings-line : (rest line more : List ℕ) → lines rest ≡ line ∷ lines more → 0 < length line → readings rest ≡ reading line ∷ readings more
readings-line rest line more h l =
    ap (λ (ls : List (List ℕ)). map reading (filter (λ x. nat_lt 0 (length x)) ls)) h
    ∙ ap (λ (t : Bool). map reading (cond t (line ∷ filter (λ x. nat_lt 0 (length x)) (lines more)) (filter (λ x. nat_lt 0 (length x)) (lines more)))) (some_line (length line) l)

pub and_assoc : (a b c : Bool) → (a && (b && c)) ≡ ((a && b) && c)
and_assoc true b c = refl
and_assoc false b c = refl
