-- What an input of a merge gives.
use Rattle.std.specs.Prelude.{◌≡◌, ℕ, Bool, true, false, List, [], ◌∷◌, Option, None, Some, IfSome, Result, Ok, Err}
use Rattle.rj_shards.specs.declared.merge.place.Placed.{Placed}
use Rattle.rj_shards.specs.declared.merge.refused.MergeRefused.{MergeRefused}
use Rattle.rj_shards.specs.declared.merge.refused.MergeRefused.TheVariants as refused

-- rows, and the error after them, if there is one
pub record Reading (T : Type 0) : Type 0 where
  pub rows : List (Placed T)
  pub fault : Option MergeRefused

-- an error of the machine, which no text has
abbrev pub is_outside : MergeRefused → Bool
is_outside refused.Memory = true
is_outside (refused.ReadDevice input) = true
is_outside (refused.NoHeader input) = false
is_outside (refused.NoPlaces input) = false
is_outside (refused.OtherHeader input) = false
is_outside (refused.RaggedRow input row) = false
is_outside (refused.BadPlace input row) = false
is_outside (refused.NoPlace input row) = false
is_outside (refused.NotInOrder input row) = false
is_outside (refused.RepeatedPlace place) = false

-- the number of the input in an error, if it has one
abbrev pub told_input : MergeRefused → Option ℕ
told_input refused.Memory = None
told_input (refused.ReadDevice input) = Some input
told_input (refused.NoHeader input) = Some input
told_input (refused.NoPlaces input) = Some input
told_input (refused.OtherHeader input) = Some input
told_input (refused.RaggedRow input row) = Some input
told_input (refused.BadPlace input row) = Some input
told_input (refused.NoPlace input row) = Some input
told_input (refused.NotInOrder input row) = Some input
told_input (refused.RepeatedPlace place) = None

-- an error names no input but that of this number
abbrev pub TellsOf : ℕ → MergeRefused → Type 0
TellsOf number e = IfSome (told_input e) (λ input. input ≡ number)

-- an error names no input but one of these numbers
abbrev pub TellsAmong : (ℕ → Bool) → MergeRefused → Type 0
TellsAmong numbers e = IfSome (told_input e) (λ input. numbers input ≡ true)

-- the next thing that a reading gives: its first row, its end, or its error after all rows
abbrev pub Gives : {T : Type 0} → Reading T → Result (Option (Placed T)) MergeRefused → Reading T → Type 0
Gives old (Ok (Some row)) new = (old.rows ≡ row ∷ new.rows) × (old.fault ≡ new.fault)
Gives old (Ok None) new = (old.rows ≡ []) × (old.fault ≡ None)
Gives old (Err e) new = is_outside e ≡ false → (old.rows ≡ []) × (old.fault ≡ Some e)
