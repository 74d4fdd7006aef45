-- Which files names lead to, as the system tells.
use Rattle.std.specs.Prelude.{◌≡◌, ◌&&◌, ◌==◌, Bool, false, Option, None, Some, IfSome, Result}
use Rattle.std.specs.declared.alloc.AllocError.{AllocError}
use Rattle.rj_files.specs.declared.identities.Identity.{Identity}

-- the answer to a name: the file to which it leads, if there is one, or that the system has no
-- memory
abbrev pub Answer : Type 0
Answer = Result (Option Identity) AllocError

-- an answer that is the known one; if none is known, it may be any
abbrev pub IsAnswer : Option Answer → Answer → Type 0
IsAnswer known answer = IfSome known (λ a. answer ≡ a)

-- two names lead to one regular file
abbrev pub are_one_file : Option Identity → Option Identity → Bool
are_one_file (Some a) (Some b) = a.is_regular && (a.device == b.device) && (a.number == b.number)
are_one_file (Some a) None = false
are_one_file None b = false
