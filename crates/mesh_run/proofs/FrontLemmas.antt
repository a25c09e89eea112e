-- Lemmas on fronts of what is printed.
use Rattle.std.proofs.Common.{◌≡◌, ℕ, ◌+◌, ◌≤◌, List, ◌++◌, length, take, Option, refl, sym, ap, ◌∙◌, subst, length-append, arith}
use Rattle.std.specs.Io.KnownBytes.{Appends}
use Rattle.std.proofs.KnownBytes.{Appends-trans}
use Rattle.std.proofs.Math.Seq.{take-append-add}
use Rattle.std.proofs.lemmas.List.{take_at, take-append-le}
use Rattle.mesh_base.specs.Writes.{AppendsFront}
use Rattle.mesh_model.specs.Run.Outcome.{OutcomeOf, reached}
use Rattle.mesh_run.specs.Outcome.{AppendsLess}
use Rattle.mesh_run.proofs.KindLemmas.{Front}

-- a text is a front of itself and more
pub front-appends : (base now : Option (List ℕ)) (first all more : List ℕ) → Appends base now first → all ≡ first ++ more → AppendsFront base now all
front-appends base now first all more printed is =
    let Q : List ℕ → Type 0 = λ text. Appends base now text in
    let taken : take (length first) all ≡ first = ap (take (length first)) is ∙ take_at first more (length first) refl in
    (length first, omega (arith, ap length is, length-append first more), subst Q (sym taken) printed)

-- a front of a text is one of it and more
pub front-more : (base now : Option (List ℕ)) (text more all : List ℕ) → AppendsFront base now text → all ≡ text ++ more → AppendsFront base now all
front-more base now text more all front is =
    let Q : List ℕ → Type 0 = λ t. Appends base now t in
    let cut : take front.0 all ≡ take front.0 text = ap (take front.0) is ∙ take-append-le front.0 text more front.1 in
    (front.0, omega (arith, front.1, ap length is, length-append text more), subst Q (sym cut) front.2)

-- less than a text is less than it and more
pub less-more : (base now : Option (List ℕ)) (text more all : List ℕ) → AppendsLess base now text → all ≡ text ++ more → AppendsLess base now all
less-more base now text more all less is =
    let Q : List ℕ → Type 0 = λ t. Appends base now t in
    let within : less.0 ≤ length text = omega (arith, less.1) in
    let cut : take less.0 all ≡ take less.0 text = ap (take less.0) is ∙ take-append-le less.0 text more within in
    (less.0, omega (arith, less.1, ap length is, length-append text more), subst Q (sym cut) less.2)

-- a first text and then a second are both
pub appends-after : (base old new : Option (List ℕ)) (first second all : List ℕ) → Appends base old first → Appends old new second
    → all ≡ first ++ second → Appends base new all
appends-after base old new first second all printed more is =
    let Q : List ℕ → Type 0 = λ text. Appends base new text in
    subst Q (sym is) (Appends-trans base old new first second printed more)

-- all of a first text and less than a second are less than both
pub less-after : (base old new : Option (List ℕ)) (first second all : List ℕ) → Appends base old first → AppendsLess old new second
    → all ≡ first ++ second → AppendsLess base new all
less-after base old new first second all printed less is =
    let n = less.0 in
    let Q : List ℕ → Type 0 = λ text. Appends base new text in
    let cut : take (length first + n) all ≡ first ++ take n second = ap (take (length first + n)) is ∙ take-append-add first second n in (
      length first + n,
      omega (arith, less.1, ap length is, length-append first second),
      subst Q (sym cut) (Appends-trans base old new first (take n second) printed less.2),
    )

-- what was printed before an outcome is a front of what is printed after it
pub front-before : {X : Type 0} (text : X → List ℕ) (base now : Option (List ℕ)) (before : X) (outcome : OutcomeOf X) → Front (text before) (text (reached outcome)) → Appends base now (text before)
    → AppendsFront base now (text (reached outcome))
front-before text base now before outcome grown printed = front-appends base now (text before) (text (reached outcome)) grown.0 printed grown.1
