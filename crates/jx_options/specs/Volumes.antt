-- The volumes of `--poc`: entries of a POC segment (T.800, A.6.6, Table A.32), each as RS,CS,LYE,RE,CE,ORDER.
use Rattle.std.specs.Prelude.{◌≤◌, ◌<◌, ℕ, ◌&&◌, nat_lt, List, [], ◌∷◌, length, map, Option, None, Some, codes, if◌then◌else◌}
use Rattle.std.specs.Char.{to_ascii_lowercase}
use Rattle.std.specs.Fmt.{decimal}
use Rattle.std.specs.List.{All, join_with_byte}
use Rattle.std.specs.Option.{option_map, option_or}
use Rattle.std.specs.Str.{bytes_eq}
use Rattle.jx_base.specs.OrderNumbers.{IsOrderNumber}
use Rattle.jx_base.specs.Texts.{number_in}
use Rattle.jx_marker.specs.declared.Progression.{Progression}
use Rattle.jx_options.specs.Orders.{word_named}
use Rattle.jx_options.specs.Values.{all_in, parts_of, value_in}

-- a volume has a resolution, a component and a layer, and one of the five orders
pub record IsVolume (e : Progression) : Type 0 where
  pub res : e.rs < e.re
  pub few_res : e.re ≤ 33
  pub comp : e.cs < e.ce
  pub few_comps : e.ce ≤ 16384
  pub layers : 1 ≤ e.lye
  pub few_layers : e.lye ≤ 65535
  pub order : IsOrderNumber e.order

-- 1 to 32 of them
pub record AreVolumes (entries : List Progression) : Type 0 where
  pub some : 1 ≤ length entries
  pub few : length entries ≤ 32
  pub each : All IsVolume entries

-- the numbers of a volume, with commas (44) between them, and the word of its order
abbrev pub volume_text : Progression → List ℕ
volume_text e =
    join_with_byte 44
    (decimal e.rs ∷ decimal e.cs ∷ decimal e.lye ∷ decimal e.re ∷ decimal e.ce ∷ word_named e.order ∷ [])

-- with slashes (47) between them
abbrev pub volumes_text : List Progression → List ℕ
volumes_text entries = join_with_byte 47 (map volume_text entries)

-- ---- what is read

-- a number from 0 up
abbrev pub number_from_0 : ℕ → List ℕ → Option ℕ
number_from_0 most text = if bytes_eq text (codes "0") then Some 0 else number_in most text

-- the order that is named, in any case of letters
abbrev pub volume_orders : List (List ℕ × ℕ)
volume_orders = (codes "lrcp", 0) ∷ (codes "rlcp", 1) ∷ (codes "rpcl", 2) ∷ (codes "pcrl", 3) ∷ (codes "cprl", 4) ∷ []

abbrev pub order_named : List ℕ → Option ℕ
order_named text = value_in volume_orders (map to_ascii_lowercase text)

-- an entry that has a resolution and a component
abbrev pub volume_with : (rs cs lye re ce order : ℕ) → Option Progression
volume_with rs cs lye re ce order =
    if nat_lt rs re && nat_lt cs ce then Some (record { rs = rs; cs = cs; lye = lye; re = re; ce = ce; order = order })
    else None

-- of numbers that are there
abbrev pub all_six : (rs cs lye re ce order : Option ℕ) → Option Progression
all_six (Some rs) (Some cs) (Some lye) (Some re) (Some ce) (Some order) = volume_with rs cs lye re ce order
all_six _ _ _ _ _ _ = None

-- of six texts
abbrev pub volume_of : List (List ℕ) → Option Progression
volume_of (rs ∷ cs ∷ lye ∷ re ∷ ce ∷ order ∷ []) =
    all_six (number_from_0 32 rs) (number_from_0 16383 cs) (number_in 65535 lye) (number_in 33 re) (number_in 16384 ce)
    (order_named order)
volume_of _ = None

unfoldable pub volume_in : List ℕ → Option Progression
volume_in text = volume_of (parts_of 44 text)

-- the volumes that are spelled so
unfoldable pub volumes_in : List ℕ → Option (List Progression)
volumes_in text = all_in volume_in 32 (parts_of 47 text)

-- ---- what the words of `--poc` say: `keep`, or the entries that the main header gets: none, or the volumes
abbrev pub poc_choices : List (List ℕ × Option (List Progression))
poc_choices = (codes "none", Some []) ∷ (codes "keep", None) ∷ []

abbrev pub parse_poc : List ℕ → Option (Option (List Progression))
parse_poc text = option_or (value_in poc_choices text) (option_map Some (volumes_in text))
