-- The options of a `link` line: `delay=D`, `pattern=P` and `tp=T` in any order, each at most once.
-- D is 1 to 10000 milliseconds, T is 1 to 1000000 in units of 100 kbit/s. A word that is no
-- option, an option that isn't of its form and one that is given twice are refused by `bad
-- number`; behind three different options a further word is one too many. Where an option isn't
-- given, D is 1, P is `.` and T is 10. The main words are `options_of` and `link_with`.
use Rattle.std.specs.Prelude.{ℕ, ◌&&◌, nat_le, Bool, List, [], ◌∷◌, fold, codes, length, take, drop, bytes_eq, Option, Some, None, is_some, unwrap_or, option_map, option_and_then, ok_or, Result, Ok, Err, if◌then◌else◌}
use Rattle.mesh_model.specs.declared.ending.Refusal.{Refusal}
use Rattle.mesh_model.specs.declared.ending.Refusal.TheVariants.{BadNumber, ExtraWord}
use Rattle.mesh_model.specs.declared.line_form.Command.{Command}
use Rattle.mesh_model.specs.declared.line_form.Command.TheVariants.{Link}
use Rattle.mesh_model.specs.Scenario.Readings.{Reading, refused}
use Rattle.mesh_model.specs.Scenario.Terms.{number_of, once_mark, is_pattern}
use Rattle.mesh_model.specs.Scenario.Words.{Word}

-- the least delay, in milliseconds
abbrev pub least_delay : ℕ
least_delay = 1

-- the greatest delay, in milliseconds
abbrev pub delay_limit : ℕ
delay_limit = 10000

-- the least throughput, in units of 100 kbit/s
abbrev pub least_throughput : ℕ
least_throughput = 1

-- the greatest throughput, in units of 100 kbit/s
abbrev pub throughput_limit : ℕ
throughput_limit = 1000000

-- the delay where none is given
abbrev pub default_delay : ℕ
default_delay = 1

-- the pattern where none is given: each frame is delivered once
abbrev pub default_pattern : List ℕ
default_pattern = once_mark ∷ []

-- the throughput where none is given
abbrev pub default_throughput : ℕ
default_throughput = 10

-- the options that are given
pub record LinkOptions : Type 0 where
  pub delay : Option ℕ
  pub pattern : Option (List ℕ)
  pub throughput : Option ℕ

-- no option is given
abbrev pub no_options : LinkOptions
no_options = record { delay = None; pattern = None; throughput = None }

-- whether each option is given
abbrev pub are_all_given : LinkOptions → Bool
are_all_given options =
    is_some options.delay && is_some options.pattern && is_some options.throughput

-- what stands behind the name of an option
abbrev pub value_behind : List ℕ → List ℕ → Option (List ℕ)
value_behind name word =
    if bytes_eq (take (length name) word) name then Some (drop (length name) word) else None

-- a number in a range
abbrev pub number_within : ℕ → ℕ → ℕ → Option ℕ
number_within least most number =
    if nat_le least number && nat_le number most then Some number else None

-- a word as a pattern
abbrev pub pattern_of : List ℕ → Option (List ℕ)
pattern_of word = if is_pattern word then Some word else None

-- what was read, where nothing was given before
abbrev pub unless_given : {A : Type 0} → Option A → Option A → Option A
unless_given None read = read
unless_given (Some given) read = None

-- the options with a delay
abbrev pub with_delay : LinkOptions → List ℕ → Option LinkOptions
with_delay options word = option_map (λ delay. record options { delay = Some delay })
    (unless_given options.delay
    (option_and_then (number_within least_delay delay_limit) (number_of word)))

-- the options with a pattern
abbrev pub with_pattern : LinkOptions → List ℕ → Option LinkOptions
with_pattern options word = option_map (λ pattern. record options { pattern = Some pattern })
    (unless_given options.pattern (pattern_of word))

-- the options with a throughput
abbrev pub with_throughput : LinkOptions → List ℕ → Option LinkOptions
with_throughput options word =
    option_map (λ throughput. record options { throughput = Some throughput })
    (unless_given options.throughput
    (option_and_then (number_within least_throughput throughput_limit) (number_of word)))

-- an option by what stands behind its name, where the word begins with that name
abbrev pub when_named :
    (List ℕ → Option LinkOptions) → Option (List ℕ) → Option LinkOptions → Option LinkOptions
when_named read (Some value) other = read value
when_named read None other = other

-- the options with the one that a word gives
abbrev pub with_option : LinkOptions → List ℕ → Option LinkOptions
with_option options word =
    when_named (with_delay options) (value_behind (codes "delay=") word)
    (when_named (with_pattern options) (value_behind (codes "pattern=") word)
    (when_named (with_throughput options) (value_behind (codes "tp=") word) None))

-- the options with that of one more word, unless three are given
abbrev pub with_one_more : LinkOptions → List ℕ → Result LinkOptions Refusal
with_one_more options word =
    if are_all_given options then Err ExtraWord else ok_or (with_option options word) BadNumber

-- the options that were read, with one more; the first refusal stays
abbrev pub after_one_more : Result LinkOptions Refusal → Word → Result LinkOptions Refusal
after_one_more (Ok options) word = with_one_more options word.word
after_one_more (Err refusal) word = Err refusal

-- the options that words give beside others, one after another; the first that is refused refuses
-- them all
abbrev pub options_beside : LinkOptions → List Word → Result LinkOptions Refusal
options_beside given words = fold after_one_more (Ok given) words

-- the options that words give
abbrev pub options_of : List Word → Result LinkOptions Refusal
options_of words = options_beside no_options words

-- the link with these options
abbrev pub link_with : List ℕ → List ℕ → LinkOptions → Command
link_with from to options =
    Link from to (unwrap_or options.delay default_delay)
    (unwrap_or options.pattern default_pattern)
    (unwrap_or options.throughput default_throughput)

-- a command with the options that were read
abbrev pub after_options : (LinkOptions → Command) → Result LinkOptions Refusal → Reading
after_options command (Ok options) = Ok (command options)
after_options command (Err refusal) = refused refusal

-- the other words as options
abbrev pub the_options : (LinkOptions → Command) → List Word → Reading
the_options command words = after_options command (options_of words)
