-- What people are shown of a run that is under way.
use Rattle.std.specs.Prelude.{ℕ, ◌/◌, ◌%◌, nat_lt, if◌then◌else◌, List, ◌++◌, codes, decimal}

-- the last three digits of a number
abbrev pub last_three : ℕ → List ℕ
last_three n = decimal (n / 100 % 10) ++ (decimal (n / 10 % 10) ++ decimal (n % 10))

-- the digits of a number below 10^12, with a comma before each three of them, counted from the last
abbrev pub grouped : ℕ → List ℕ
grouped n =
    if nat_lt n 1000 then decimal n
    else if nat_lt n 1000000 then decimal (n / 1000) ++ (codes "," ++ last_three n)
    else if nat_lt n 1000000000 then decimal (n / 1000000) ++ (codes "," ++ (last_three (n / 1000) ++ (codes "," ++ last_three n)))
    else decimal (n / 1000000000) ++ (codes "," ++ (last_three (n / 1000000) ++ (codes "," ++ (last_three (n / 1000) ++ (codes "," ++ last_three n)))))

-- that so many code-blocks of all are coded anew
abbrev pub progress_text : ℕ → ℕ → List ℕ
progress_text done all = codes "recoding " ++ (grouped done ++ (codes " of " ++ (grouped all ++ codes " blocks")))
