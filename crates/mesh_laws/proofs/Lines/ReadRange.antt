-- The options of a link line that is read are in their ranges, and a LAN has a gateway.
use Rattle.std.proofs.Common.{◌≡◌, ℕ, ◌<◌, ◌≤◌, ◌&&◌, Bool, true, false, List, [], ◌∷◌, length, Option, Some, None, Result, Ok, Err, refl, subst, arith}
use Rattle.std.specs.Prelude.{⊤, codes, fold, unwrap_or, option_map, option_and_then, ok_or, nat_le, if◌then◌else◌}
use Rattle.std.proofs.lemmas.Bool.Decides.{nat_tests}
use Rattle.mesh_model.specs.declared.ending.Refusal.{Refusal}
use Rattle.mesh_model.specs.declared.ending.Refusal.TheVariants.{BadNumber, ExtraWord}
use Rattle.mesh_model.specs.declared.line_form.Command.{Command}
use Rattle.mesh_model.specs.declared.line_form.Command.TheVariants.{Lan}
use Rattle.mesh_model.specs.Scenario.Commands.{command_of_line}
use Rattle.mesh_model.specs.Scenario.LinkOptions.{LinkOptions, after_one_more, are_all_given, delay_limit, least_delay, least_throughput, no_options, number_within, pattern_of, throughput_limit, unless_given, value_behind, when_named, with_delay, with_option, with_pattern, with_throughput}
use Rattle.mesh_model.specs.Scenario.Terms.{is_pattern, number_of, once_mark}
use Rattle.mesh_model.specs.Scenario.Words.{Word}
use Rattle.mesh_laws.specs.LineLaws.{HasLinkRanges, IsInRange}
use Rattle.mesh_laws.proofs.Lines.FieldsRead.{AnyText, FieldsWereRead, LinkWasRead, all_fields_read}

-- ---- the options of a link

-- options that were read are in range
record OptionsInRange (options : LinkOptions) : Type 0 where
  delays : (d : ℕ) → options.delay ≡ Some d → (least_delay ≤ d) × (d ≤ delay_limit)
  patterns : (p : List ℕ) → options.pattern ≡ Some p → is_pattern p ≡ true
  throughputs : (t : ℕ) → options.throughput ≡ Some t → (least_throughput ≤ t) × (t ≤ throughput_limit)

abbrev MaybeInRange : Option LinkOptions → Type 0
MaybeInRange None = ⊤
MaybeInRange (Some options) = OptionsInRange options

some-is : {A : Type 0} (x y : A) → Some x ≡ Some y → x ≡ y
some-is x y h = cc

none-some : {A : Type 0} (x : A) → None ≡ Some x → ⊥
none-some x h = cc

no-options : OptionsInRange no_options
no-options = record {
  delays = λ d h. absurd (none-some d h);
  patterns = λ p h. absurd (none-some p h);
  throughputs = λ t h. absurd (none-some t h);
}

if-within : (least most n d : ℕ) (ok : Bool) → (nat_le least n && nat_le n most) ≡ ok → (if ok then Some n else None) ≡ Some d → (least ≤ d) × (d ≤ most)
if-within least most n d true test h =
    let is : n ≡ d = some-is n d h in
    subst (λ k. (least ≤ k) × (k ≤ most)) is (grind (arith, nat_tests, test), grind (arith, nat_tests, test))
if-within least most n d false test h = absurd (none-some d h)

within : (least most : ℕ) (n : Option ℕ) (d : ℕ) → option_and_then (number_within least most) n ≡ Some d → (least ≤ d) × (d ≤ most)
within least most None d h = absurd (none-some d h)
within least most (Some n) d h = if-within least most n d (nat_le least n && nat_le n most) refl h

-- what an option gives, unless it was given
given : {A : Type 0} (old read : Option A) (x : A) → unless_given old read ≡ Some x → read ≡ Some x
given None read x h = h
given (Some y) read x h = absurd (none-some x h)

delay-from : (options : LinkOptions) (read : Option ℕ) → OptionsInRange options → ((d : ℕ) → read ≡ Some d → (least_delay ≤ d) × (d ≤ delay_limit))
    → MaybeInRange (option_map (λ d. record options { delay = Some d }) read)
delay-from options None o h = tt
delay-from options (Some d) o h = record {
  delays = λ k e. subst (λ n. (least_delay ≤ n) × (n ≤ delay_limit)) (some-is d k e) (h d refl);
  patterns = o.patterns;
  throughputs = o.throughputs;
}

throughput-from : (options : LinkOptions) (read : Option ℕ) → OptionsInRange options → ((t : ℕ) → read ≡ Some t → (least_throughput ≤ t) × (t ≤ throughput_limit))
    → MaybeInRange (option_map (λ t. record options { throughput = Some t }) read)
throughput-from options None o h = tt
throughput-from options (Some t) o h = record {
  delays = o.delays;
  patterns = o.patterns;
  throughputs = λ k e. subst (λ n. (least_throughput ≤ n) × (n ≤ throughput_limit)) (some-is t k e) (h t refl);
}

pattern-from : (options : LinkOptions) (read : Option (List ℕ)) → OptionsInRange options → ((p : List ℕ) → read ≡ Some p → is_pattern p ≡ true)
    → MaybeInRange (option_map (λ p. record options { pattern = Some p }) read)
pattern-from options None o h = tt
pattern-from options (Some p) o h = record {
  delays = o.delays;
  patterns = λ k e. subst (λ q. is_pattern q ≡ true) (some-is p k e) (h p refl);
  throughputs = o.throughputs;
}

if-pattern : (word p : List ℕ) (ok : Bool) → is_pattern word ≡ ok → (if ok then Some word else None) ≡ Some p → is_pattern p ≡ true
if-pattern word p true test h = subst (λ q. is_pattern q ≡ true) (some-is word p h) test
if-pattern word p false test h = absurd (none-some p h)

when-named : (read : List ℕ → Option LinkOptions) (value : Option (List ℕ)) (other : Option LinkOptions) → ((v : List ℕ) → MaybeInRange (read v)) → MaybeInRange other
    → MaybeInRange (when_named read value other)
when-named read None other h rest = rest
when-named read (Some value) other h rest = h value

an-option : (options : LinkOptions) (word : List ℕ) → OptionsInRange options → MaybeInRange (with_option options word)
an-option options word o =
    when-named (with_delay options) (value_behind (codes "delay=") word) _
    (λ v. delay-from options (unless_given options.delay (option_and_then (number_within least_delay delay_limit) (number_of v))) o
    (λ d e. within least_delay delay_limit (number_of v) d (given options.delay _ d e)))
    (when-named (with_pattern options) (value_behind (codes "pattern=") word) _
    (λ v. pattern-from options (unless_given options.pattern (pattern_of v)) o
    (λ p e. if-pattern v p (is_pattern v) refl (given options.pattern _ p e)))
    (when-named (with_throughput options) (value_behind (codes "tp=") word) None
    (λ v. throughput-from options (unless_given options.throughput (option_and_then (number_within least_throughput throughput_limit) (number_of v))) o
    (λ t e. within least_throughput throughput_limit (number_of v) t (given options.throughput _ t e))) tt))

abbrev ReadOptionsInRange : Result LinkOptions Refusal → Type 0
ReadOptionsInRange (Ok options) = OptionsInRange options
ReadOptionsInRange (Err refusal) = ⊤

read-option : (refusal : Refusal) (read : Option LinkOptions) → MaybeInRange read → ReadOptionsInRange (ok_or read refusal)
read-option refusal None h = tt
read-option refusal (Some options) h = h

unless-all : (all : Bool) (refusal : Refusal) (read : Result LinkOptions Refusal) → ReadOptionsInRange read → ReadOptionsInRange (if all then Err refusal else read)
unless-all true refusal read h = tt
unless-all false refusal read h = h

one-more : (read : Result LinkOptions Refusal) (word : Word) → ReadOptionsInRange read → ReadOptionsInRange (after_one_more read word)
one-more (Ok options) word h =
    unless-all (are_all_given options) ExtraWord (ok_or (with_option options word.word) BadNumber)
    (read-option BadNumber (with_option options word.word) (an-option options word.word h))
one-more (Err refusal) word h = tt

all-options : (read : Result LinkOptions Refusal) (words : List Word) → ReadOptionsInRange read → ReadOptionsInRange (fold after_one_more read words)
all-options read [] h = h
all-options read (word ∷ words) h = all-options (after_one_more read word) words (one-more read word h)

delay-or : (d : Option ℕ) → ((n : ℕ) → d ≡ Some n → (least_delay ≤ n) × (n ≤ delay_limit)) → (least_delay ≤ unwrap_or d 1) × (unwrap_or d 1 ≤ delay_limit)
delay-or None h = (omega arith, omega arith)
delay-or (Some n) h = h n refl

throughput-or : (d : Option ℕ) → ((n : ℕ) → d ≡ Some n → (least_throughput ≤ n) × (n ≤ throughput_limit)) → (least_throughput ≤ unwrap_or d 10) × (unwrap_or d 10 ≤ throughput_limit)
throughput-or None h = (omega arith, omega arith)
throughput-or (Some n) h = h n refl

pattern-or : (p : Option (List ℕ)) → ((n : List ℕ) → p ≡ Some n → is_pattern n ≡ true) → is_pattern (unwrap_or p (once_mark ∷ [])) ≡ true
pattern-or None h = refl
pattern-or (Some n) h = h n refl

-- a link that was read is in range
in-range : (delay : ℕ) (pattern : List ℕ) (throughput : ℕ) → LinkWasRead delay pattern throughput → HasLinkRanges delay pattern throughput
in-range delay pattern throughput was = record {
  least = subst (λ d. least_delay ≤ d) was.delay_is (delay-or was.options.delay ranges.delays).0;
  most = subst (λ d. d ≤ delay_limit) was.delay_is (delay-or was.options.delay ranges.delays).1;
  pattern_is = subst (λ p. is_pattern p ≡ true) was.pattern_is (pattern-or was.options.pattern ranges.patterns);
  least_throughput_is = subst (λ t. least_throughput ≤ t) was.throughput_is (throughput-or was.options.throughput ranges.throughputs).0;
  most_throughput = subst (λ t. t ≤ throughput_limit) was.throughput_is (throughput-or was.options.throughput ranges.throughputs).1;
}
  where
    ranges : OptionsInRange was.options
    ranges = subst ReadOptionsInRange was.are (all-options (Ok no_options) was.words no-options)

-- ---- lines

-- what is read is in range
pub read-in-range : (line : List ℕ) (command : Command) → command_of_line line ≡ Ok command → IsInRange command
read-in-range line command h = λ from to pattern delay throughput is. in-range delay pattern throughput (subst (FieldsWereRead AnyText) is (all_fields_read line command h))

-- a LAN that is read has a gateway
pub read-has-gateways : (line : List ℕ) (command : Command) (name : List ℕ) (gateways : List (List ℕ)) → command_of_line line ≡ Ok command → command ≡ Lan name gateways → 0 < length gateways
read-has-gateways line command name gateways h is = (subst (FieldsWereRead AnyText) is (all_fields_read line command h)).1
