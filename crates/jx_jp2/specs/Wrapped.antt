-- A JP2 file with another codestream in the place of its own: all other boxes stay byte for byte, and the head keeps its form where it
-- can (ITU-T T.800, I.4).
use Rattle.std.specs.Prelude.{ℕ, ◌+◌, ◌^◌, nat_lt, List, ◌++◌, length, take, drop, if◌then◌else◌}
use Rattle.byteorder.specs.Endian.{big_bytes}
use Rattle.jx_jp2.specs.declared.HeadForm.{HeadForm}
use Rattle.jx_jp2.specs.declared.HeadForm.TheVariants as form
use Rattle.jx_jp2.specs.declared.Boxed.{Boxed}
use Rattle.jx_jp2.specs.Heads.{head_size}
use Rattle.jx_jp2.specs.Kinds.{jp2c}

-- the form that a head has for a content of so many bytes: a short one that can't tell the length becomes long
abbrev pub form_for : HeadForm → ℕ → HeadForm
form_for form.Short size = if nat_lt (8 + size) (2 ^ 32) then form.Short else form.Long
form_for form.Long size = form.Long
form_for form.Rest size = form.Rest

-- the head of a codestream box in a form, with a content of so many bytes
unfoldable pub head_bytes : HeadForm → ℕ → List ℕ
head_bytes form.Short size = big_bytes 4 (8 + size) ++ big_bytes 4 jp2c
head_bytes form.Long size = big_bytes 4 1 ++ big_bytes 4 jp2c ++ big_bytes 8 (16 + size)
head_bytes form.Rest size = big_bytes 4 0 ++ big_bytes 4 jp2c

-- the file of `bytes`, of which `boxed` is the codestream, with `inner` in its place
unfoldable pub wrapped : List ℕ → Boxed → List ℕ → List ℕ
wrapped bytes boxed inner =
    take boxed.head bytes ++ (head_bytes (form_for boxed.form (length inner)) (length inner) ++ (inner ++ drop boxed.to bytes))

-- where the codestream then is
abbrev pub boxed_for : Boxed → ℕ → Boxed
boxed_for boxed size = record {
  head = boxed.head;
  from = boxed.head + head_size (form_for boxed.form size);
  to = boxed.head + head_size (form_for boxed.form size) + size;
  form = form_for boxed.form size;
}
