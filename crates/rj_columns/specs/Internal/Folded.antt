-- Names by their form in lower case. Internal: no public contract uses it.
use Rattle.std.specs.Prelude.{◌≡◌, List, All, String, string_bytes}
use Rattle.std.specs.Str.{str_to_ascii_lowercase}

-- each name is under its form in lower case
abbrev pub AreFolded : {A : Type 0} → List (String A × String A) → Type 0
AreFolded entries = All (λ e. string_bytes e.0 ≡ str_to_ascii_lowercase (string_bytes e.1)) entries
