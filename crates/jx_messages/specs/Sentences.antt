-- What is said of a refusal: which sentence, and what stands in it.
use Rattle.std.specs.Prelude.{◌≡◌, ℕ, List, ◌++◌, codes, if◌then◌else◌}
use Rattle.std.specs.Fmt.{decimal}
use Rattle.jx_messages.specs.declared.Refusal.{Refusal}
use Rattle.jx_messages.specs.declared.Refusal.TheVariants as refusal
use Rattle.jx_messages.specs.Choices.{choice_words, misfit_words, option_words, own_words}
use Rattle.jx_messages.specs.Differences.{differs_sentence}
use Rattle.jx_messages.specs.Limits.{LimitRow, limit_words}
use Rattle.jx_messages.specs.Names.{inputs_in, name_in, value_in, writes_nowhere}
use Rattle.jx_messages.specs.Rules.{RuleRow, rule_words}
use Rattle.jx_messages.specs.Text.{EndsLine, Text}

-- what stands at a byte of the input, and what is wrong with it
unfoldable pub rule_front : Text → Text → ℕ → Text → Text
rule_front input what place wrong =
    codes "jx: " ++ (input ++ (codes ": " ++ (what ++ (codes " at byte " ++ (decimal place ++ (codes ":\n    " ++ (wrong ++ codes "\n")))))))

-- a rule's row with its number, the byte, and the input's name
unfoldable pub rule_filled : RuleRow → ℕ → ℕ → Text → Text
rule_filled row number place input =
    rule_front input row.what place row.wrong ++ (codes "    (T.800 " ++ (row.section ++ (codes "; rule " ++ (decimal number ++ codes ")\n"))))

-- the rule that an input violates at a byte
abbrev pub rule_sentence : ℕ → ℕ → Text → Text
rule_sentence number place input = rule_filled (rule_words number) number place input

-- what was counted in the input
unfoldable pub limit_front : Text → ℕ → Text → Text
limit_front input found what = codes "jx: " ++ (input ++ (codes ": " ++ (decimal found ++ (codes " " ++ (what ++ codes ",\n")))))

-- a limit's row with its number, what was found, and the input's name
unfoldable pub limit_filled : LimitRow → ℕ → ℕ → Text → Text
limit_filled row number found input =
    limit_front input found row.what ++ (codes "    and this program takes at most " ++ (decimal row.most ++ (codes " (limit " ++ (decimal number ++ (codes ")" ++ (row.advice ++ codes "\n"))))))

-- the limit that an input passes
abbrev pub limit_sentence : ℕ → ℕ → Text → Text
limit_sentence number found input = limit_filled (limit_words number found) number found input

-- a choice that can't be had, with the value of the option that it is about
abbrev pub choice_sentence : ℕ → ℕ → List Text → Text
choice_sentence number place words = choice_words number place (value_in words (option_words number))

-- choice 2, with the exponents that the input has where it comes first
abbrev pub misfit_sentence : ℕ → ℕ → ℕ → ℕ → ℕ → List Text → Text
misfit_sentence place comp res across down words = misfit_words place (own_words comp res across down) (value_in words (option_words 2))

-- a code-block that is damaged
abbrev pub block_sentence : ℕ → Text → Text
block_sentence number input =
    codes "jx: " ++ (input ++ (codes ": code-block " ++ (decimal number ++ codes " was to be coded anew for --style, and\n    one of its segmentation symbols is wrong, so its bytes are damaged:\n    --style keep takes them as they are (T.800 D.5)\n")))

abbrev pub read_sentence : Text → Text
read_sentence input = codes "jx: " ++ (input ++ codes " could not be opened or read:\n    is it there, and may you read it?\n")

-- some commands write to standard output alone
abbrev pub write_sentence : List Text → Text
write_sentence words =
    if writes_nowhere words then codes "jx: standard output was closed, or could not be written\n" else
    codes "jx: " ++ (name_in words 1 ++ (codes " could not be created, written, brought to its disk or\n    given its name, or standard output was closed; an older " ++ (name_in words 1 ++ codes "\n    is as it was, unless the new one was made whole\n")))

abbrev pub no_memory_sentence : Text
no_memory_sentence = codes "jx: the system gave too little memory: close other programs\n"

-- what is told of a refusal of a run on these words
abbrev pub IsExplained : Refusal → List Text → Text → Type 0
IsExplained refusal.Words words text = EndsLine text
IsExplained (refusal.Rule number place) words text = text ≡ rule_sentence number place (name_in words 0)
IsExplained (refusal.Limit number found) words text = text ≡ limit_sentence number found (name_in words 0)
IsExplained (refusal.Choice number place) words text = text ≡ choice_sentence number place words
IsExplained (refusal.Misfit place comp res across down) words text = text ≡ misfit_sentence place comp res across down words
IsExplained (refusal.Block number) words text = text ≡ block_sentence number (name_in words 0)
IsExplained (refusal.Differs difference) words text = text ≡ differs_sentence (name_in words 0) (name_in words 1) difference
IsExplained (refusal.SecondRule number place) words text = text ≡ rule_sentence number place (name_in words 1)
IsExplained (refusal.SecondLimit number found) words text = text ≡ limit_sentence number found (name_in words 1)
IsExplained refusal.ReadFault words text = text ≡ read_sentence (inputs_in words)
IsExplained refusal.WriteFault words text = text ≡ write_sentence words
IsExplained refusal.NoMemory words text = text ≡ no_memory_sentence
