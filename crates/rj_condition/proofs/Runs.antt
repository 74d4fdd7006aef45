-- The run at the front of a list, and where a text may be cut behind it.
use Rattle.std.proofs.Common.{◌≡◌, inl, inr, ℕ, zero, suc, ◌+◌, ◌<◌, ◌≤◌, ◌&&◌, List, [], ◌∷◌, ◌++◌, Bool, true, false, cond, take, drop, length, refl, sym, ap, ◌∙◌, subst, arith}
use Rattle.std.specs.Prelude.{IsUtf8}
use Rattle.std.specs.Str.{IsAscii, IsCharBoundary}
use Rattle.std.specs.List.{prefix_len, list_all}
use Rattle.std.proofs.lemmas.Bool.Decides.{nat_tests}
use Rattle.std.proofs.lemmas.List.Sums.{prefix_len-le-length}
use Rattle.std.proofs.lemmas.Str.{IsUtf8-from_ascii, IsCharBoundary-from_take}
use Rattle.std.proofs.lemmas.Bool.{and_parts, cases_Bool}
use Rattle.rj_condition.specs.Tokens.{begins, is_name_byte}

module _ (p : ℕ → Bool) where
  one_more : (n : ℕ) → 1 + n ≡ suc n
  one_more n = omega arith

  pub len_in : (x : ℕ) (xs : List ℕ) → p x ≡ true → prefix_len p (x ∷ xs) ≡ suc (prefix_len p xs)
  len_in x xs e = ap (λ b. cond b (1 + prefix_len p xs) 0) e ∙ one_more (prefix_len p xs)

  pub len_out : (x : ℕ) (xs : List ℕ) → p x ≡ false → prefix_len p (x ∷ xs) ≡ 0
  len_out x xs e = ap (λ b. cond b (1 + prefix_len p xs) 0) e

  pub run_passes : (xs : List ℕ) → list_all p (take (prefix_len p xs) xs) ≡ true
  run_passes [] = refl
  run_passes (x ∷ xs) = elim (cases_Bool (p x)) [
    | inl e ↦ ap (λ n. list_all p (take n (x ∷ xs))) (len_in x xs e) ∙ ap (λ b. b && list_all p (take (prefix_len p xs) xs)) e ∙ run_passes xs
    | inr e ↦ ap (λ n. list_all p (take n (x ∷ xs))) (len_out x xs e)
  ]

  pub run_ends : (xs : List ℕ) → begins p (drop (prefix_len p xs) xs) ≡ false
  run_ends [] = refl
  run_ends (x ∷ xs) = elim (cases_Bool (p x)) [
    | inl e ↦ ap (λ n. begins p (drop n (x ∷ xs))) (len_in x xs e) ∙ run_ends xs
    | inr e ↦ ap (λ n. begins p (drop n (x ∷ xs))) (len_out x xs e) ∙ e
  ]

  pub run_is : (w rest : List ℕ) → list_all p w ≡ true → begins p rest ≡ false → prefix_len p (w ++ rest) ≡ length w
  run_is [] [] a b = refl
  run_is [] (r ∷ rest) a b = len_out r rest b
  run_is (x ∷ w) rest a b =
      let h = and_parts (p x) (list_all p w) a in
      len_in x (w ++ rest) h.0 ∙ ap suc (run_is w rest h.1 b)

  -- a run of ASCII bytes
  all_ascii : ((b : ℕ) → p b ≡ true → b < 128) → (xs : List ℕ) → list_all p xs ≡ true → IsAscii xs
  all_ascii low [] a i = omega arith
  all_ascii low (x ∷ xs) a zero = low x (and_parts (p x) (list_all p xs) a).0
  all_ascii low (x ∷ xs) a (suc i) = all_ascii low xs (and_parts (p x) (list_all p xs) a).1 i

  pub run_ascii : ((b : ℕ) → p b ≡ true → b < 128) → (xs : List ℕ) → IsAscii (take (prefix_len p xs) xs)
  run_ascii low xs = all_ascii low (take (prefix_len p xs) xs) (run_passes xs)

-- a text may be cut behind its ASCII bytes
pub cut_behind : (bs : List ℕ) (n : ℕ) → IsUtf8 bs → n ≤ length bs → IsAscii (take n bs) → IsCharBoundary bs n
cut_behind bs n u le a = IsCharBoundary-from_take bs n u le (IsUtf8-from_ascii (take n bs) a)

name_byte_low : (b : ℕ) → is_name_byte b ≡ true → b < 128
name_byte_low b e = grind (arith, nat_tests)

pub cut_word : (bs text : List ℕ) (n : ℕ) → bs ≡ text → n ≡ prefix_len is_name_byte bs → IsUtf8 text → IsCharBoundary text n
cut_word bs text n same len u =
    let P : ℕ → Type 0 = IsCharBoundary text in
    subst P (sym (len ∙ ap (prefix_len is_name_byte) same))
    (cut_behind text (prefix_len is_name_byte text) u (prefix_len-le-length is_name_byte text) (run_ascii is_name_byte name_byte_low text))
