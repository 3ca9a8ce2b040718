-- What is asked may be wanted.
use Rattle.std.proofs.Common.{◌≡◌, ◌<◌, ◌≤◌, ◌⊎◌, subst, sym, drop, refl, arith, ℕ, List, [], Option, None, Some, IfSome, inl, inr, Bool, true, false, codes, if◌then◌else◌, unwrap_or}
use Rattle.std.specs.Option.{option_map, option_or}
use Rattle.std.specs.Str.{bytes_eq}
use Rattle.std.proofs.lemmas.List.Elements.{All-nil}
use Rattle.jx_base.specs.OrderNumbers.{IsOrderNumber}
use Rattle.jx_marker.specs.declared.Progression.{Progression}
use Rattle.jx_marker.specs.Ranges.{AreBytes}
use Rattle.jx_base.specs.declared.style.Style.{Style}
use Rattle.jx_options.specs.Wanted.{MayBeStyle, MayBeWanted}
use Rattle.jx_options.specs.Names.{reduce_said, thread_count}
use Rattle.jx_options.specs.Orders.{order_said}
use Rattle.jx_options.specs.Values.{ArePrecincts, precincts_in, precincts_said, style_said, value_in, whole_choices}
use Rattle.jx_options.specs.Volumes.{AreVolumes, poc_choices, parse_poc, volumes_in}
use Rattle.jx_cli.specs.Words.{Given, MayBeAsked, given_in, request_by, request_of, wanted_by, work_by}
use Rattle.jx_base.specs.Limits.{most_bytes}
use Rattle.jx_options.specs.Work.{MayBeLimit, MayBeWork}
use Rattle.jx_options.proofs.OrderWords.{order_few}
use Rattle.jx_options.proofs.SpellLemmas.{precincts_read}
use Rattle.jx_options.proofs.StyleLemmas.{IsGood, style_good}
use Rattle.jx_options.proofs.VolumeLemmas.{volumes_read}
use Rattle.jx_options.proofs.ValueLemmas.{found}
use Rattle.jx_base.specs.Texts.{number_in}
use Rattle.jx_base.proofs.Texts.{number_read}

-- ---- values that are said, or their defaults
else_none : {X : Type 0} (P : X → Type 0) (o : Option (Option X)) → IfSome o (λ v. IfSome v P) → IfSome (unwrap_or o None) P
else_none P None all = tt
else_none P (Some v) all = all

order_asked : (text : List ℕ) → IfSome (unwrap_or (order_said text) None) IsOrderNumber
order_asked text = else_none IsOrderNumber (order_said text) (order_few text)

-- no entries, or those of 1 to 32 volumes
abbrev AreChanges : List Progression → Type 0
AreChanges entries = (entries ≡ []) ⊎ AreVolumes entries

changes_few : (text : List ℕ) → IfSome (parse_poc text) (λ v. IfSome v AreChanges)
changes_few text = by (value_in poc_choices text) (found (λ v. IfSome v AreChanges) poc_choices text (inl refl, (tt, tt))) (volumes_in text) refl
  where
    spelled : (o : Option (List Progression)) → volumes_in text ≡ o → IfSome (option_map Some o) (λ v. IfSome v AreChanges)
    spelled None is = tt
    spelled (Some entries) is = inr (volumes_read text entries is)

    by : (listed : Option (Option (List Progression))) → IfSome listed (λ v. IfSome v AreChanges) → (o : Option (List Progression)) → volumes_in text ≡ o
        → IfSome (option_or listed (option_map Some o)) (λ v. IfSome v AreChanges)
    by None all o is = spelled o is
    by (Some v) all o is = all

changes_asked : (text : List ℕ) → IfSome (unwrap_or (parse_poc text) (Some [])) AreChanges
changes_asked text = by (parse_poc text) (changes_few text)
  where
    by : (o : Option (Option (List Progression))) → IfSome o (λ v. IfSome v AreChanges) → IfSome (unwrap_or o (Some [])) AreChanges
    by None all = inl refl
    by (Some v) all = all

-- no bytes, or those of 1 to 33 resolutions
abbrev ArePerhaps : List ℕ → Type 0
ArePerhaps bytes = (bytes ≡ []) ⊎ ArePrecincts bytes

precincts_few : (text : List ℕ) → IfSome (precincts_said text) (λ v. IfSome v ArePerhaps)
precincts_few text = by (value_in whole_choices text) (found (λ v. IfSome v ArePerhaps) whole_choices text (tt, (inl refl, tt))) (precincts_in text) refl
  where
    spelled : (o : Option (List ℕ)) → precincts_in text ≡ o → IfSome (option_map Some o) (λ v. IfSome v ArePerhaps)
    spelled None is = tt
    spelled (Some bytes) is = inr (precincts_read text bytes is).0

    by : (listed : Option (Option (List ℕ))) → IfSome listed (λ v. IfSome v ArePerhaps) → (o : Option (List ℕ)) → precincts_in text ≡ o → IfSome (option_or listed (option_map Some o)) (λ v. IfSome v ArePerhaps)
    by None all o is = spelled o is
    by (Some v) all o is = all

precincts_asked : (text : List ℕ) → IfSome (unwrap_or (precincts_said text) None) ArePerhaps
precincts_asked text = else_none ArePerhaps (precincts_said text) (precincts_few text)

are_bytes : (o : Option (List ℕ)) → IfSome o ArePerhaps → IfSome o AreBytes
are_bytes None may = tt
are_bytes (Some bytes) (inl none) = subst AreBytes (sym none) (All-nil (λ b. b < 256))
are_bytes (Some bytes) (inr are) = are.each

style_few : (text : List ℕ) → IfSome (unwrap_or (style_said text) None) MayBeStyle
style_few text = else_none MayBeStyle (style_said text) (by (style_said text) (style_good text))
  where
    by : (o : Option (Option Style)) → IfSome o (λ v. IfSome v (IsGood text)) → IfSome o (λ v. IfSome v MayBeStyle)
    by None good = tt
    by (Some None) good = tt
    by (Some (Some style)) good = good.0

pub given_may_be : (g : Given) → MayBeWanted (wanted_by g)
unfolding wanted_by
given_may_be g = record { order = order_asked g.order; changes = changes_asked g.poc; bytes = are_bytes (unwrap_or (precincts_said g.precincts) None) (precincts_asked g.precincts); style = style_few g.style }

-- a number that is said, or the default
abbrev pub IsWithin : ℕ → ℕ → Type 0
IsWithin most n = (1 ≤ n) × (n ≤ most)

pub number_within : (most default : ℕ) (text : List ℕ) → IsWithin most default → IsWithin most (unwrap_or (number_in most text) default)
number_within most default text may = by (number_in most text) refl
  where
    by : (o : Option ℕ) → number_in most text ≡ o → IsWithin most (unwrap_or o default)
    by None is = may
    by (Some n) is =
        let read = number_read most n text is in
        (read.0, read.1)

-- `auto`, a number that is said, or the default
pub threads_within : (text : List ℕ) → unwrap_or (thread_count text) 0 ≤ 64
threads_within text = by (bytes_eq text (codes "auto")) (number_in 64 text) refl
  where
    by : (free : Bool) (o : Option ℕ) → number_in 64 text ≡ o → unwrap_or (if free then Some 0 else o) 0 ≤ 64
    by true o is = omega arith
    by false None is = omega arith
    by false (Some n) is = (number_read 64 n text is).1

pub work_may_be : (g : Given) → MayBeWork (work_by g)
unfolding work_by
work_may_be g =
    let threads = threads_within g.threads in
    let window = number_within 1024 64 g.window (omega arith, omega arith) in
    let most = number_within most_bytes 268435456 g.window_bytes (omega arith, omega arith) in
    record { few_threads = threads; some_window = window.0; few_window = window.1; some_most = most.0; few_most = most.1 }

-- 0, a number that is said, or the default
reduce_within : (text : List ℕ) → unwrap_or (reduce_said text) 0 ≤ 32
reduce_within text = by (bytes_eq text (codes "0")) (number_in 32 text) refl
  where
    by : (zeroth : Bool) (o : Option ℕ) → number_in 32 text ≡ o → unwrap_or (if zeroth then Some 0 else o) 0 ≤ 32
    by true o is = omega arith
    by false None is = omega arith
    by false (Some n) is = (number_read 32 n text is).1

pub given_reduce_few : (g : Given) → (request_by g).reduce ≤ 32
given_reduce_few g = reduce_within g.reduce

pub limit_within : (text : List ℕ) → MayBeLimit (unwrap_or (number_in most_bytes text) 268435456)
limit_within text =
    let within = number_within most_bytes 268435456 text (omega arith, omega arith) in
    record { some = within.0; few = within.1 }

pub given_limit : (g : Given) → MayBeLimit (request_by g).limit
given_limit g = limit_within g.limit_bytes

pub may_be_limit : (words : List (List ℕ)) → MayBeLimit (request_of words).limit
unfolding request_of
may_be_limit words = given_limit (given_in (drop 1 words))

pub may_be_reduced : (words : List (List ℕ)) → (request_of words).reduce ≤ 32
unfolding request_of
may_be_reduced words = given_reduce_few (given_in (drop 1 words))

pub may_be_wanted : (words : List (List ℕ)) → MayBeWanted (request_of words).wanted
unfolding request_of
may_be_wanted words = given_may_be _

pub may_be_work : (words : List (List ℕ)) → MayBeWork (request_of words).work
unfolding request_of
may_be_work words = work_may_be _

request_asked : (g : Given) → MayBeAsked (request_by g)
unfolding wanted_by
request_asked g = record { order = order_asked g.order; changes = changes_asked g.poc; precincts = precincts_asked g.precincts; style = style_few g.style; reduce = given_reduce_few g; limit = given_limit g; work = work_may_be g }

pub asked : (words : List (List ℕ)) → MayBeAsked (request_of words)
unfolding request_of
asked words = request_asked (given_in (drop 1 words))
