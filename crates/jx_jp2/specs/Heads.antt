-- A box's head, the span of its content, and the first of the rules 32 to 34 that it breaks (ITU-T T.800, I.4).
use Rattle.std.specs.Prelude.{◌≡◌, ℕ, ◌+◌, ◌-◌, ◌==◌, ◌&&◌, ◌||◌, not, nat_lt, Bool, List, length, Option, Some, None, if◌then◌else◌}
use Rattle.byteorder.specs.Endian.{big_from}
use Rattle.jx_jp2.specs.declared.HeadForm.{HeadForm}
use Rattle.jx_jp2.specs.declared.HeadForm.TheVariants as form
use Rattle.jx_jp2.specs.declared.Boxed.{Boxed}
use Rattle.jx_jp2.specs.declared.faults.BoxFault.{BoxFault}
use Rattle.jx_jp2.specs.declared.faults.BoxFault.TheVariants as fault

-- the fields of a head that begins at a place: LBox, TBox and, where LBox is 1, XLBox
unfoldable pub lbox : List ℕ → ℕ → ℕ
lbox bytes at = big_from at 4 bytes

unfoldable pub tbox : List ℕ → ℕ → ℕ
tbox bytes at = big_from (at + 4) 4 bytes

unfoldable pub xlbox : List ℕ → ℕ → ℕ
xlbox bytes at = big_from (at + 8) 8 bytes

-- the form of a head, by its LBox
unfoldable pub form_of : ℕ → HeadForm
form_of told = if told == 0 then form.Rest else if told == 1 then form.Long else form.Short

-- the bytes of a head
abbrev pub head_size : HeadForm → ℕ
head_size form.Short = 8
head_size form.Long = 16
head_size form.Rest = 8

-- the bytes of the whole box, its head among them
unfoldable pub length_at : List ℕ → ℕ → ℕ
length_at bytes at = if lbox bytes at == 0 then length bytes - at else if lbox bytes at == 1 then xlbox bytes at else lbox bytes at

-- the first byte of the content, and the byte after it, which is the end of the box
abbrev pub from_at : List ℕ → ℕ → ℕ
from_at bytes at = at + head_size (form_of (lbox bytes at))

abbrev pub end_at : List ℕ → ℕ → ℕ
end_at bytes at = at + length_at bytes at

abbrev pub boxed_at : List ℕ → ℕ → Boxed
boxed_at bytes at = record { head = at; from = from_at bytes at; to = end_at bytes at; form = form_of (lbox bytes at) }

-- rule 32: of the file, or of the box in which this one stands, too few bytes are left for the head
unfoldable pub breaks_32 : List ℕ → ℕ → ℕ → Bool
breaks_32 bytes at left = nat_lt left 8 || ((lbox bytes at == 1) && nat_lt left 16)

-- rule 33: the length is smaller than the head; or LBox is 0 in a box that isn't on the top level
unfoldable pub breaks_33 : List ℕ → Bool → ℕ → Bool
breaks_33 bytes top at =
    if lbox bytes at == 0 then not top
    else if lbox bytes at == 1 then nat_lt (xlbox bytes at) 16
    else nat_lt (lbox bytes at) 8

-- rule 34: the box is longer than what is left
unfoldable pub breaks_34 : List ℕ → ℕ → ℕ → Bool
breaks_34 bytes at left = nat_lt left (length_at bytes at)

-- the first rule that the box at a place breaks, on a level that ends at `stop`
unfoldable pub first_broken : List ℕ → Bool → ℕ → ℕ → Option ℕ
first_broken bytes top stop at =
    if breaks_32 bytes at (stop - at) then Some 32
    else if breaks_33 bytes top at then Some 33
    else if breaks_34 bytes at (stop - at) then Some 34
    else None

abbrev pub IsBroken : List ℕ → Bool → ℕ → ℕ → BoxFault → Type 0
IsBroken bytes top stop at (fault.Rule number place) = (first_broken bytes top stop at ≡ Some number) × (place ≡ at)
IsBroken bytes top stop at fault.NoMemory = ⊥
