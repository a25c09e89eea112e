use Rattle.std.proofs.Common.{◌≡◌, ◌<◌, ◌+◌, None, Some, add-one, arith, length, nat_eq, option_and_then, rules, subst, sym}
use Rattle.std.specs.Map.{lookup}
use Rattle.mesh_model.specs.Fragments.Assembly.{bytes_below, whole_of}
use Rattle.mesh_frag.proofs.PartLemmas.{all_looked_at, next_makes_whole, next_missing, next_too_long, one_further}
use Rattle.mesh_frag.proofs.parts.Parts.count_of.Goals as goal

pub returns-in_err-tail : goal.returns-in_err-tail
returns-in_err-tail c =
    let none : lookup (nat_eq c.loop-place.place-counter) c.self.inside.tails.entries ≡ None = search rules in
    subst (λ o. whole_of c.args.total c.args.self.now ≡ option_and_then (bytes_below c.args.self.now) o) (sym c.from_residual.ensures)
    (subst (λ parts. whole_of c.args.total parts ≡ None) c.self.view_is
    (next_missing c.self.inside.tails.entries c.args.total c.loop-place.place-counter c.loop-place.left c.loop-place.invariant none))

pub returns-in_err-left : goal.returns-in_err-left
returns-in_err-left c =
    let found : lookup (nat_eq c.loop-place.place-counter) c.self.inside.tails.entries ≡ Some c.in_ok-tail.tail.now = search rules in
    let long : c.loop-place.left < length c.in_ok-tail.tail.now = omega (arith, c.in_err-left.ensures, c.len.ensures.value) in
    subst (λ o. whole_of c.args.total c.args.self.now ≡ option_and_then (bytes_below c.args.self.now) o) (sym c.from_residual-in_err-left.ensures)
    (subst (λ parts. whole_of c.args.total parts ≡ None) c.self.view_is
    (next_too_long c.self.inside.tails.entries c.args.total c.loop-place.place-counter c.loop-place.left c.loop-place.invariant c.in_ok-tail.tail.now found long))

pub returns-then-left-eq0 : goal.returns-then-left-eq0
returns-then-left-eq0 c =
    let found : lookup (nat_eq c.loop-place.place-counter) c.self.inside.tails.entries ≡ Some c.in_ok-tail.tail.now = search rules in
    let none_left : length c.in_ok-tail.tail.now ≡ c.loop-place.left = omega (arith, c.in_ok-left.ensures, c.if-left-eq0.true, c.len.ensures.value) in
    subst (λ parts. whole_of c.args.total parts ≡ bytes_below parts (c.loop-place.place-counter + 1)) c.self.view_is
    (rw add-one
    (next_makes_whole c.self.inside.tails.entries c.args.total c.loop-place.place-counter c.loop-place.left c.loop-place.invariant c.in_ok-tail.tail.now found (omega (arith, c.loop-place-test.true)) none_left))

pub loop-place-preserved : goal.loop-place-preserved
loop-place-preserved c =
    let found : lookup (nat_eq c.loop-place.place-counter) c.self.inside.tails.entries ≡ Some c.in_ok-tail.tail.now = search rules in
    let rest : c.in_ok-left.left + length c.in_ok-tail.tail.now ≡ c.loop-place.left = omega (arith, c.in_ok-left.ensures, c.len.ensures.value) in
    rw add-one
    (one_further c.self.inside.tails.entries c.args.total c.loop-place.place-counter c.loop-place.left c.loop-place.invariant c.in_ok-tail.tail.now found c.in_ok-left.left rest (omega (arith, c.if-left-eq0.false)))

pub returns : goal.returns
returns c =
    subst (λ parts. whole_of c.args.total parts ≡ None) c.self.view_is
    (all_looked_at c.self.inside.tails.entries c.args.total c.loop-place.place-counter c.loop-place.left c.loop-place.invariant (omega (arith, c.loop-place-test.false)))
