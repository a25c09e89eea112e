-- What clap's number is, and what words are where clap finds no fault in them.
use Rattle.std.proofs.Common.{◌≡◌, ◌≢◌, ◌∙◌, ap, sym, ℕ, Bool, true, false, List, [], ◌∷◌, Option, Some, None, refl, cond, codes}
use Rattle.std.specs.Str.Parse.{digits_value, without_leading_plus}
use Rattle.clap.proofs.ValueTestLemmas.{Accepts-accepts, accepts-Accepts}
use Rattle.clap.specs.ValueTests.{is_unsigned_in}
use Rattle.clap.specs.Values.{Accepts}
use Rattle.clap.specs.declared.builder.value_parser.ValueParser.TheVariants.{Unsigned}
use Rattle.clap.specs.Words.{Kinds, Row, fault_of, first_of, matches_of}
use Rattle.mesh_model.specs.Run.CommandLine.{call_given, call_of_values, is_set, loop_call, nodes_of_word, scenario_call, the_command, unless_faulty, words_of}

-- where clap finds no fault, the values are those of the rows
pub faultless : (words : List (List ℕ)) (rows : List Row) → fault_of the_command words ≡ [] → rows ≡ matches_of the_command words → words_of words ≡ call_of_values rows
unfolding words_of
faultless words rows none is = rw (none, is) refl

pub faulty : (words : List (List ℕ)) → fault_of the_command words ≢ [] → words_of words ≡ None
unfolding words_of
faulty words some = go (fault_of the_command words) some
  where
    go : (kinds : Kinds) → kinds ≢ [] → unless_faulty kinds (call_of_values (matches_of the_command words)) ≡ None
    go [] some = absurd (some refl)
    go (kind ∷ more) some = refl

-- a text that a number of nodes may have names it
pub named : (word : List ℕ) → Accepts false (Unsigned 3 64) word → nodes_of_word word ≡ Some (digits_value 10 (without_leading_plus word))
unfolding nodes_of_word
named word taken = rw (Accepts-accepts false (Unsigned 3 64) word taken) refl

-- another one names none
pub unnamed : (word : List ℕ) → (Accepts false (Unsigned 3 64) word → ⊥) → nodes_of_word word ≡ None
unfolding nodes_of_word
unnamed word other = go (is_unsigned_in 3 64 word) (λ e. other (accepts-Accepts false (Unsigned 3 64) word e))
  where
    go : (b : Bool) → (b ≡ true → ⊥) → cond b (Some (digits_value 10 (without_leading_plus word))) None ≡ None
    go true no_test = absurd (no_test refl)
    go false no_test = refl

-- the call of the values that are found by these names
module _ (values : List Row) (bisect frames nodes file : Option (List ℕ)) (a : bisect ≡ first_of (codes "bisect") values) (b : frames ≡ first_of (codes "frames") values)
    (c : nodes ≡ first_of (codes "generate") values) (d : file ≡ first_of (codes "file") values) where
  joined : call_given (is_set bisect) frames nodes file ≡ call_of_values values
  joined = rw (a, b, c, d) refl

  -- where `--bisect` is there, and where it isn't
  pub joined_loop : is_set bisect ≡ true → loop_call frames nodes file ≡ call_of_values values
  joined_loop set = ap (λ t. call_given t frames nodes file) (sym set) ∙ joined

  pub joined_scenario : is_set bisect ≡ false → scenario_call frames nodes file ≡ call_of_values values
  joined_scenario set = ap (λ t. call_given t frames nodes file) (sym set) ∙ joined
