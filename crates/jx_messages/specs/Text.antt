-- Texts as lists of bytes.
use Rattle.std.specs.Prelude.{◌≡◌, ℕ, List, ◌++◌, codes}

-- the bytes of a word, or of what is said
abbrev pub Text : Type 0
Text = List ℕ

-- a text that isn't empty and ends with a line feed
abbrev pub EndsLine : Text → Type 0
EndsLine text = (front : Text) × (text ≡ front ++ codes "\n")
