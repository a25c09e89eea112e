-- Acts that are put cut.
use Rattle.std.proofs.Common.{◌≡◌, ◌<◌, ◌≤◌, ◌+◌, ◌&&◌, inl, inr, ℕ, zero, suc, Bool, true, false, cond, nat_lt, nat_le, filter, List, [], ◌∷◌, ◌++◌, length, drop, slice_get, Option, Some, None, Result, Ok, Err, refl, sym, ap, ap₂, ◌∙◌, subst, arith}
use Rattle.std.proofs.lemmas.Option.{same_Some}
use Rattle.std.proofs.lemmas.Bool.{and_parts, false≢true, leb-true, lt-ltb, ltb-true}
use Rattle.mesh_model.specs.declared.act.Act.{Act}
use Rattle.mesh_model.specs.declared.act.Act.TheVariants.{Link, Lan, Print}
use Rattle.mesh_model.specs.declared.ending.LimitName.{LimitName}
use Rattle.mesh_model.specs.declared.packet.Head.{Head}
use Rattle.mesh_model.specs.declared.packet.Head.TheVariants.{IvOgm, Bcast, Elp, Ogm2, Unicast, Frag, Unicast4, Icmp, Utvlv}
use Rattle.mesh_model.specs.declared.ending.LimitName.TheVariants as limits
use Rattle.mesh_model.specs.Acts.Cuts.{Cutter, after_act, cut_act, cut_acts, cuts_among, is_cut, is_one_too_many, is_too_long, passes_cuts}
use Rattle.mesh_model.specs.Acts.NodeLimits.{cut_limit}
use Rattle.node_cuts.specs.Collected.{cutter_of, one_cut_limit}
use Rattle.node_cuts.specs.declared.cutter.Cutter.{Cutter as CutterCode}
use Rattle.node_ground.specs.Errors.{HasCause, HasOwnCause}
use Rattle.node_ground.specs.declared.failure.NodeErr.{NodeErr}
use Rattle.node_ground.specs.declared.failure.NodeErr.TheVariants.{Memory, Clients, Vlans, Frames, FrameBytes, Cuts, Dead}
use Rattle.node_ground.specs.Puts.{Leaves, Puts, StopsAt, StopsBehind, TakesAll}
use Rattle.node_ground.specs.Sending.{IsWritable}
use Rattle.mesh_frag.specs.Frags.{HeadsFragment}
use Rattle.node_ground.proofs.PutsLemmas.{puts_behind, stops_among, stops_free}

-- what stands from a place on
pub from_place : {X : Type 0} (xs : List X) (place : ℕ) (x : X) → slice_get xs place ≡ Some x → drop place xs ≡ x ∷ drop (place + 1) xs
from_place [] place x is = absurd cc
from_place {X} (y ∷ xs) zero x is = ap (λ (z : X). z ∷ xs) (same_Some y x is)
from_place {X} (y ∷ xs) (suc place) x is = let more : suc (place + 1) ≡ suc place + 1 = omega arith in from_place xs place x is ∙ ap (λ (n : ℕ). x ∷ drop n (y ∷ xs)) more

-- ---- fragments
-- a fragment can be written, whatever its tail
pub fragment_fits : (head : Head) (tail : List ℕ) → HeadsFragment head → IsWritable head tail
fragment_fits (IvOgm ttl flags seq orig prev tq) tail is = absurd is
fragment_fits (Bcast ttl seq orig) tail is = absurd is
fragment_fits (Elp orig seq interval) tail is = absurd is
fragment_fits (Ogm2 ttl flags seq orig throughput) tail is = absurd is
fragment_fits (Unicast ttl ttvn dst) tail is = absurd is
fragment_fits (Frag ttl number priority dst orig seq total) tail is = record { fragment = is; fits = tt }
fragment_fits (Unicast4 ttl ttvn dst src subtype) tail is = absurd is
fragment_fits (Icmp ttl msg dst orig uid seq) tail is = absurd is
fragment_fits (Utvlv ttl dst src) tail is = absurd is

-- ---- cuts
-- an act that is put counts among the cuts
pub count_rest : (cutter : Cutter) (act : Act) (rest : List Act)
    → (after_act cutter act).cuts + cuts_among (after_act cutter act).most rest ≡ cutter.cuts + cuts_among cutter.most (act ∷ rest)
count_rest cutter act rest = go (is_cut cutter.most act)
  where
    go : (cuts : Bool) → (cond cuts (record cutter { cuts = suc cutter.cuts }) cutter).cuts + length (filter (is_cut (cond cuts (record cutter { cuts = suc cutter.cuts }) cutter).most) rest)
        ≡ cutter.cuts + length (cond cuts (act ∷ filter (is_cut cutter.most) rest) (filter (is_cut cutter.most) rest))
    go true = omega arith
    go false = refl

-- what is counted with what will be stays, from act to act
pub counting : (first now new : CutterCode) (act : Act) (all left rest : List Act) → left ≡ act ∷ rest → cutter_of new ≡ after_act (cutter_of now) act
    → now.cuts + cuts_among now.most left ≡ first.cuts + cuts_among first.most all → new.cuts + cuts_among new.most rest ≡ first.cuts + cuts_among first.most all
counting first now new act all left rest next counted is =
    ap (λ (c : Cutter). c.cuts + cuts_among c.most rest) counted
    ∙ count_rest (cutter_of now) act rest
    ∙ ap (λ (acts : List Act). now.cuts + cuts_among now.most acts) (sym next)
    ∙ is

-- behind the last act all are counted
pub counted_all : (first now : CutterCode) (all left : List Act) → left ≡ [] → now.cuts + cuts_among now.most left ≡ first.cuts + cuts_among first.most all
    → now.cuts ≡ first.cuts + cuts_among first.most all
counted_all first now all left none is =
    let last : now.cuts + 0 ≡ first.cuts + cuts_among first.most all = ap (λ (acts : List Act). now.cuts + cuts_among now.most acts) (sym none) ∙ is in
    omega (arith, last)

-- an act that isn't cut once too often counts among the cuts
passes_rest : (cutter : Cutter) (act : Act) (rest : List Act) → passes_cuts cutter (act ∷ rest) ≡ passes_cuts (after_act cutter act) rest
passes_rest cutter act rest = go (is_cut cutter.most act)
  where
    go : (cuts : Bool) → (nat_lt 0 cutter.most && nat_lt 65535 (cutter.cuts + length (cond cuts (act ∷ filter (is_cut cutter.most) rest) (filter (is_cut cutter.most) rest))))
        ≡ passes_cuts (cond cuts (record cutter { cuts = suc cutter.cuts }) cutter) rest
    go true =
        let more : cutter.cuts + suc (length (filter (is_cut cutter.most) rest)) ≡ suc cutter.cuts + length (filter (is_cut cutter.most) rest) = omega arith in
        ap (λ n. nat_lt 0 cutter.most && nat_lt 65535 n) more
    go false = refl

-- what is cut, is cut by some length
some_most : (most : ℕ) (act : Act) → is_cut most act ≡ true → 0 < most
some_most most (Link to reason bytes) is = long (length bytes) (and_parts _ _ is).0
  where
    long : (size : ℕ) → is_too_long most size ≡ true → 0 < most
    long size is =
        let least : 300 ≤ most = leb-true 300 most (and_parts (nat_le 300 most) _ (and_parts _ _ (and_parts _ _ is).0).0).0 in
        omega (arith, least)
some_most most (Lan bytes) is = absurd (false≢true is)
some_most most (Print event) is = absurd (false≢true is)

-- an act that would be cut once too often passes the limit
passes_there : (cutter : Cutter) (act : Act) (rest : List Act) → is_one_too_many cutter act ≡ true → passes_cuts cutter (act ∷ rest) ≡ true
passes_there cutter act rest is =
    let parts = and_parts (is_cut cutter.most act) (nat_le 65535 cutter.cuts) is in
    let many : 65535 ≤ cutter.cuts = leb-true 65535 cutter.cuts parts.1 in
    let others : List Act = filter (is_cut cutter.most) rest in
    subst (λ b. (nat_lt 0 cutter.most && nat_lt 65535 (cutter.cuts + length (cond b (act ∷ others) others))) ≡ true) (sym parts.0)
    (ap₂ (λ x y. x && y) (lt-ltb 0 cutter.most (some_most cutter.most act parts.0)) (lt-ltb 65535 (cutter.cuts + suc (length others)) (omega (arith, many))))

module _ {P : Type 0} (takes : P → Act → P → Type 0) (same : P → P → Type 0) (over : P → Act → Option LimitName) where
  -- what is put from here on by these acts is what is put from there by all
  abbrev pub GoesOnFrom : P → List Act → P → List Act → Type 0
  GoesOnFrom old all mid rest = (result : Result Unit NodeErr) (new : P) → Puts takes same over mid rest result new → Puts takes same over old all result new

  pub stops_there : (error : NodeErr) (old mid new : P) (all : List Act) (act : Act) (rest : List Act) → GoesOnFrom old all mid (act ∷ rest) → StopsAt takes same over error mid (act ∷ []) new → StopsAt takes same over error old all new
  stops_there error old mid new all act rest go stop = go (Err error) new (stops_among takes same over error mid new (act ∷ []) rest stop)

  pub one_further : (old mid next : P) (all : List Act) (act : Act) (rest : List Act) → GoesOnFrom old all mid (act ∷ rest) → TakesAll takes over mid (act ∷ []) next → GoesOnFrom old all next rest
  one_further old mid next all act rest go took = λ result new puts. go result new (puts_behind takes same over mid next new (act ∷ []) rest result took puts)

  -- ---- limits
  free_answer : (limit : LimitName) (error : NodeErr) → HasCause None error → HasOwnCause (Some limit) error
  free_answer limit Memory cause = tt
  free_answer limit Clients cause = absurd cause
  free_answer limit Vlans cause = absurd cause
  free_answer limit Frames cause = absurd cc
  free_answer limit FrameBytes cause = absurd cc
  free_answer limit Cuts cause = absurd cause
  free_answer limit Dead cause = absurd cause

  free_stop : (limit : Option LimitName) (error : NodeErr) → HasCause None error → HasCause limit error
  free_stop limit Memory cause = tt
  free_stop limit Clients cause = absurd cause
  free_stop limit Vlans cause = absurd cause
  free_stop limit Frames cause = absurd cc
  free_stop limit FrameBytes cause = absurd cc
  free_stop limit Cuts cause = absurd cause
  free_stop limit Dead cause = absurd cause

  -- where it stops among the first acts, it stops before a limit behind all
  stops_before : (limit : LimitName) (error : NodeErr) (old new : P) (first rest : List Act) → StopsAt takes same over error old first new → StopsBehind takes same over limit old (first ++ rest) (Err error) new
  stops_before limit error old new [] [] stop = (stop.0, free_answer limit error stop.1)
  stops_before limit error old new [] (act ∷ rest) stop = inl (stop.0, free_stop (over old act) error stop.1)
  stops_before limit error old new (act ∷ first) rest (inl at) = inl at
  stops_before limit error old new (act ∷ first) rest (inr later) = inr (later.0, later.1, later.2, stops_before limit error later.0 new first rest later.3)

  -- behind the first acts it stops behind the rest
  stops_behind_more : (limit : LimitName) (old mid new : P) (first rest : List Act) (result : Result Unit NodeErr) → TakesAll takes over old first mid → StopsBehind takes same over limit mid rest result new
      → StopsBehind takes same over limit old (first ++ rest) result new
  stops_behind_more limit old mid new [] rest result all stop = rw all stop
  stops_behind_more limit old mid new (act ∷ first) rest result all stop = inr (all.0, all.1, all.2, stops_behind_more limit all.0 mid new first rest result all.3 stop)

  abbrev pub LeavesCut : Cutter → P → List Act → Result Unit NodeErr → P → Type 0
  LeavesCut cutter old acts result new = Leaves takes same over (cut_limit cutter acts) old (cut_acts cutter acts) result new

  abbrev pub LeavesOne : Cutter → P → Act → Result Unit NodeErr → P → Type 0
  LeavesOne cutter old act result new = Leaves takes same over (one_cut_limit cutter act) old (cut_act cutter act) result new

  -- the acts behind the first one
  abbrev rest_acts : Cutter → Act → List Act → List Act
  rest_acts cutter act rest = cut_acts (after_act cutter act) rest

  -- by whether the limit is passed, and by whether the first act passes it, what is left of a port
  abbrev LeavesBy : Bool → Bool → Cutter → P → Act → List Act → Result Unit NodeErr → P → Type 0
  LeavesBy passed many cutter old act rest result new =
      Leaves takes same over (cond passed (Some (record { acts = cond many [] (cut_act cutter act ++ rest_acts cutter act rest); limit = limits.Cuts })) None) old
      (cond many [] (cut_act cutter act ++ rest_acts cutter act rest)) result new

  -- an act that is put, and the rest behind it
  pub puts_rest : (cutter : Cutter) (old mid new : P) (act : Act) (rest : List Act) (done : Unit) (result : Result Unit NodeErr) → LeavesOne cutter old act (Ok done) mid → LeavesCut (after_act cutter act) mid rest result new
      → LeavesCut cutter old (act ∷ rest) result new
  puts_rest cutter old mid new act rest done result one left = go (is_one_too_many cutter act) one
    where
      by : (passed : Bool) → TakesAll takes over old (cut_act cutter act) mid
          → Leaves takes same over (cond passed (Some (record { acts = rest_acts cutter act rest; limit = limits.Cuts })) None) mid (rest_acts cutter act rest) result new
          → LeavesBy passed false cutter old act rest result new
      by true took stop = stops_behind_more limits.Cuts old mid new (cut_act cutter act) (rest_acts cutter act rest) result took stop
      by false took puts = puts_behind takes same over old mid new (cut_act cutter act) (rest_acts cutter act rest) result took puts

      go : (many : Bool) → Leaves takes same over (cond many (Some (record { acts = []; limit = limits.Cuts })) None) old (cut_act cutter act) (Ok done) mid
          → LeavesBy (passes_cuts cutter (act ∷ rest)) many cutter old act rest result new
      go true one = absurd cc
      go false took =
          subst (λ passed. LeavesBy passed false cutter old act rest result new) (sym (passes_rest cutter act rest))
          (by (passes_cuts (after_act cutter act) rest) took left)

  -- an act at which it stops
  pub stops_at_first : (cutter : Cutter) (old new : P) (act : Act) (rest : List Act) (error : NodeErr) → LeavesOne cutter old act (Err error) new → LeavesCut cutter old (act ∷ rest) (Err error) new
  stops_at_first cutter old new act rest error one = go (is_one_too_many cutter act) refl one
    where
      by : (passed : Bool) → StopsAt takes same over error old (cut_act cutter act) new → LeavesBy passed false cutter old act rest (Err error) new
      by true stop = stops_before limits.Cuts error old new (cut_act cutter act) (rest_acts cutter act rest) stop
      by false stop = stops_among takes same over error old new (cut_act cutter act) (rest_acts cutter act rest) stop

      go : (many : Bool) → is_one_too_many cutter act ≡ many
          → Leaves takes same over (cond many (Some (record { acts = []; limit = limits.Cuts })) None) old (cut_act cutter act) (Err error) new
          → LeavesBy (passes_cuts cutter (act ∷ rest)) many cutter old act rest (Err error) new
      go true is stop = subst (λ passed. LeavesBy passed true cutter old act rest (Err error) new) (sym (passes_there cutter act rest is)) stop
      go false is stop = by (passes_cuts cutter (act ∷ rest)) stop

  -- what is put from here on, cut, is what is put from there by all
  abbrev pub CutsOnFrom : Cutter → P → List Act → Cutter → P → List Act → Type 0
  CutsOnFrom before old all cutter mid rest = (result : Result Unit NodeErr) (new : P) → LeavesCut cutter mid rest result new → LeavesCut before old all result new

  -- want of memory may stop before an act
  pub free_one : (cutter : Cutter) (port : P) (act : Act) → same port port → LeavesOne cutter port act (Err Memory) port
  free_one cutter port act is = go (is_one_too_many cutter act)
    where
      go : (many : Bool) → Leaves takes same over (cond many (Some (record { acts = []; limit = limits.Cuts })) None) port (cut_act cutter act) (Err Memory) port
      go true = (is, tt)
      go false = stops_free takes same over port (cut_act cutter act) is

  -- without acts nothing is put
  pub none_left : (cutter : Cutter) (port : P) (done : Unit) (acts : List Act) → acts ≡ [] → cutter.cuts ≤ 65535 → LeavesCut cutter port acts (Ok done) port
  none_left cutter port done acts none few = subst (λ acts. LeavesCut cutter port acts (Ok done) port) (sym none) (go (nat_lt 0 cutter.most) (nat_lt 65535 (cutter.cuts + 0)) refl)
    where
      go : (some many : Bool) → nat_lt 65535 (cutter.cuts + 0) ≡ many → Leaves takes same over (cond (some && many) (Some (record { acts = []; limit = limits.Cuts })) None) port [] (Ok done) port
      go true true is = let lt : 65535 < cutter.cuts + 0 = ltb-true 65535 (cutter.cuts + 0) is in absurd (omega (arith, lt, few))
      go true false is = refl
      go false many is = refl
