-- Storages whose files don't fail.
use Rattle.std.specs.Prelude.{ℕ, ◌≡◌, Bool, true}
use Rattle.clap.specs.Words.{Text}

-- each file is opened unless memory runs out, and no reader ever fails
pub record IsUnfailing {R : Type 0} (count : R → ℕ) (opens : Text → Bool) : Type 0 where
  pub opened : (name : Text) → opens name ≡ true
  pub read : (reader : R) → count reader ≡ 0

-- a file may fail to be opened or to be read
abbrev pub MayFail : {R : Type 0} → (R → ℕ) → (Text → Bool) → Type 0
MayFail count opens = IsUnfailing count opens → ⊥
