-- What holds of acts holds of those that are put for them, once long packets are cut, where it holds of
-- fragments.
use Rattle.std.proofs.Common.{◌≡◌, ◌⊎◌, inl, inr, ◌+◌, ◌≤◌, ◌==◌, ◌&&◌, ℕ, suc, nat_le, nat_lt, Bool, true, false, cond, filter, List, [], ◌∷◌, ◌++◌, length, map, take, drop, slice_get, Option, Some, None, is_some, Ok, Err, refl, sym, ap, ap₂, ◌∙◌, subst, arith}
use Rattle.std.specs.List.{AllByRecursion, enumerate_from}
use Rattle.std.specs.Option.{option_or}
use Rattle.std.proofs.lemmas.Bool.{and_right, false≢true, lt-leb, ltb-false}
use Rattle.mesh_base.specs.declared.address.Mac.{Mac}
use Rattle.mesh_base.specs.declared.event.Event.{Event}
use Rattle.mesh_model.specs.declared.act.Act.{Act}
use Rattle.mesh_model.specs.declared.act.Act.TheVariants.{Link, Print}
use Rattle.mesh_model.specs.declared.ending.LimitName.TheVariants.{Cuts}
use Rattle.mesh_model.specs.declared.link_frame.NoPacket.TheVariants.{Length, Short, Version as OtherVersion}
use Rattle.mesh_model.specs.declared.packet.Head.{Head}
use Rattle.mesh_model.specs.declared.packet.Head.TheVariants.{IvOgm, Bcast, Elp, Ogm2, Unicast, Frag, Unicast4, Icmp, Utvlv}
use Rattle.mesh_model.specs.Acts.Choosing.{cutter_by, whole_acts}
use Rattle.mesh_model.specs.Acts.Cuts.{Cutter, cut_acts, cuts_among, fragment_act, fragment_acts, is_cut, is_too_long, passes_cuts}
use Rattle.mesh_model.specs.Acts.NodeLimits.{NodeLimit, client_limit, cut_limit}
use Rattle.mesh_model.specs.Acts.Packing.{sent_to_all}
use Rattle.mesh_model.specs.Acts.BridgeRows.{Place, round_acts}
use Rattle.mesh_model.specs.Acts.Rows.{alias_acts, alias_event, message_acts}
use Rattle.mesh_model.specs.Clients.Lans.{Bridge}
use Rattle.mesh_model.specs.Clients.Log.{Given}
use Rattle.mesh_model.specs.Commits.Aliases.{last_alias}
use Rattle.mesh_model.specs.Fragments.Cutting.{Cut, Reach, fragment_of, fragments, fragments_within, reach_of, reach_of_front, reach_of_head, tails}
use Rattle.mesh_model.specs.Net.Inputs.{after_entry, entry_of, given_node, given_to, unless_passed}
use Rattle.mesh_model.specs.Net.Limits.{scenario_setup}
use Rattle.mesh_model.specs.Net.Mesh.{Mesh, NodeLog, Setup}
use Rattle.mesh_model.specs.Net.Next.{Has}
use Rattle.mesh_model.specs.Net.Sending.{Actor, Attempt, after_acts, on_ok}
use Rattle.mesh_model.specs.Packets.FirstPacket.{Front, first_packet, head_in, packet_of_shape, tail_length, told_in}
use Rattle.mesh_model.specs.Packets.Layout.{spelling}
use Rattle.mesh_model.specs.Packets.Numbers.{compat_version}
use Rattle.mesh_model.specs.Packets.Shapes.{Shape, elp, header_size, iv_ogm, ogm2, shape_of_type}
use Rattle.mesh_model.specs.Routes.Queries.{Queries, is_elp}
use Rattle.mesh_model.specs.Tables.Versions.{Version}
use Rattle.mesh_laws.specs.CutLaws.{IsPutForCut}
use Rattle.mesh_laws.proofs.PacketCuts.{nothing_is_cut, puts_are_of_acts}
use Rattle.mesh_laws.proofs.Schedule.Members.{has_right}
use Rattle.mesh_tie.specs.Sources.{IsMessageOf, MessageOf, word_of}
use Rattle.mesh_tie.proofs.BridgeActs.{AreBridging, IsBridging, hands_out, puts_on_lan, round_puts}

-- ---- each of a list
pub each_of : {X : Type 0} (P : X → Type 0) (xs : List X) → ((x : X) → Has xs x → P x) → AllByRecursion P xs
each_of P [] each = tt
each_of P (x ∷ xs) each = (each x (inl refl), each_of P xs (λ other has. each other (inr has)))

pub of_each : {X : Type 0} (P : X → Type 0) (xs : List X) → AllByRecursion P xs → (x : X) → Has xs x → P x
of_each P [] all x has = absurd has
of_each P (first ∷ xs) all x (inl is) = subst P (sym is) all.0
of_each P (first ∷ xs) all x (inr has) = of_each P xs all.1 x has

-- ---- fragments
-- a fragment of a cut, by its place
pub record IsFragmentOf (cut : Cut) (fragment : Head × List ℕ) : Type 0 where
  pub reach : Reach
  pub reach_is : reach_of cut.packet ≡ Some reach
  pub place : ℕ
  pub piece : slice_get (tails cut.most cut.packet) place ≡ Some fragment.1
  pub is : fragment ≡ fragment_of cut reach (place, fragment.1)

record IsNumbered (cut : Cut) (reach : Reach) (first : ℕ) (xs : List (List ℕ)) (fragment : Head × List ℕ) : Type 0 where
  place : ℕ
  piece : slice_get xs place ≡ Some fragment.1
  is : fragment ≡ fragment_of cut reach (first + place, fragment.1)

numbered : (cut : Cut) (reach : Reach) (first : ℕ) (xs : List (List ℕ)) (fragment : Head × List ℕ) → Has (map (fragment_of cut reach) (enumerate_from first xs)) fragment → IsNumbered cut reach first xs fragment
numbered cut reach first [] fragment has = absurd has
numbered cut reach first (x ∷ xs) fragment (inl is) =
    let tail : fragment.1 ≡ x = ap (λ (f : Head × List ℕ). f.1) is in
    let same : first ≡ first + 0 = omega arith in
    record {
      place = 0;
      piece = ap (λ (t : List ℕ). Some t) (sym tail);
      is = is ∙ ap₂ (λ (n : ℕ) (t : List ℕ). fragment_of cut reach (n, t)) same (sym tail);
    }
numbered cut reach first (x ∷ xs) fragment (inr has) =
    let r = numbered cut reach (first + 1) xs fragment has in
    let more : first + 1 + r.place ≡ first + suc r.place = omega arith in
    record { place = suc r.place; piece = r.piece; is = r.is ∙ ap (λ n. fragment_of cut reach (n, fragment.1)) more }

pub fragment_is : (cut : Cut) (fragment : Head × List ℕ) → Has (fragments cut) fragment → IsFragmentOf cut fragment
fragment_is cut fragment has = go (reach_of cut.packet) refl has
  where
    go : (o : Option Reach) → reach_of cut.packet ≡ o → Has (fragments_within cut o) fragment → IsFragmentOf cut fragment
    go None is has = absurd has
    go (Some reach) is has =
        let r = numbered cut reach 0 (tails cut.most cut.packet) fragment has in
        let same : 0 + r.place ≡ r.place = omega arith in
        record { reach = reach; reach_is = is; place = r.place; piece = r.piece; is = r.is ∙ ap (λ n. fragment_of cut reach (n, fragment.1)) same }

-- ---- what is put
-- it holds of what is put, where it holds of the acts and of the fragments of their cuts
pub cut_each : (P : Act → Type 0) (cutter : Cutter) (acts : List Act) → AllByRecursion P acts → ((act : Act) → IsPutForCut cutter acts act → P act) → AllByRecursion P (cut_acts cutter acts)
cut_each P cutter acts all each = each_of P (cut_acts cutter acts) (λ act has. go act (puts_are_of_acts cutter acts act has))
  where
    go : (act : Act) → Has acts act ⊎ IsPutForCut cutter acts act → P act
    go act (inl among) = of_each P acts all act among
    go act (inr put) = each act put

-- an event that is printed is one of the acts
pub print_came : (cutter : Cutter) (acts : List Act) (event : Event) → Has (cut_acts cutter acts) (Print event) → Has acts (Print event)
print_came cutter acts event has = go (puts_are_of_acts cutter acts (Print event) has)
  where
    go : Has acts (Print event) ⊎ IsPutForCut cutter acts (Print event) → Has acts (Print event)
    go (inl there) = there
    go (inr put) = absurd (let link : Print event ≡ fragment_act put.to put.fragment = put.is in cc)

-- it holds of each fragment
abbrev pub HoldsOfFragments : (Act → Type 0) → Type 0
HoldsOfFragments P = (to : Option Mac) (ttl place : ℕ) (dst me : Mac) (number total : ℕ) (tail : List ℕ) → P (Link to None (spelling (Frag ttl place 0 dst me number total) tail))

pub cut_any : (P : Act → Type 0) (cutter : Cutter) (acts : List Act) → HoldsOfFragments P → AllByRecursion P acts → AllByRecursion P (cut_acts cutter acts)
cut_any P cutter acts any all = cut_each P cutter acts all (λ act put. of_cut act put)
  where
    of_cut : (act : Act) → IsPutForCut cutter acts act → P act
    of_cut act put =
        let f = fragment_is put.cut put.fragment put.is_of_cut in
        subst P (sym put.is) (subst (λ (x : Head × List ℕ). P (fragment_act put.to x)) (sym f.is)
        (any put.to f.reach.ttl f.place f.reach.dst put.cut.me put.cut.number (length put.cut.packet) put.fragment.1))

-- ---- what goes whole
-- an act isn't cut
abbrev pub GoesWhole : ℕ → Act → Type 0
GoesWhole most act = is_cut most act ≡ false

-- acts in front that go whole are put as they are
pub front_whole : (cutter : Cutter) (front back : List Act) → AllByRecursion (GoesWhole cutter.most) front → cut_acts cutter (front ++ back) ≡ front ++ cut_acts cutter back
front_whole cutter [] back all = refl
front_whole cutter (one ∷ front) back all = go (is_cut cutter.most one) all.0 (front_whole cutter front back all.1)
  where
    go : (b : Bool) → b ≡ false → cut_acts cutter (front ++ back) ≡ front ++ cut_acts cutter back
        → cond (b && nat_le 65535 cutter.cuts) [] (cond b (fragment_acts cutter one) (one ∷ []) ++ cut_acts (cond b (record cutter { cuts = suc cutter.cuts }) cutter) (front ++ back)) ≡ one ∷ front ++ cut_acts cutter back
    go true is rest = absurd (false≢true (sym is))
    go false is rest = ap (λ others. one ∷ others) rest

-- a frame of a kind that isn't for one node
reach_none : (s : Shape) → shape_of_type s.kind ≡ Some s → ((fields : List ℕ) → reach_of_head (head_in s.fields s.head fields) ≡ None) → (rest : List ℕ) → reach_of (s.kind ∷ rest) ≡ None
unfolding first_packet
reach_none s by none [] = refl
reach_none s by none (version ∷ fields) = go (version == compat_version)
  where
    bytes : List ℕ
    bytes = s.kind ∷ version ∷ fields

    after : List ℕ
    after = drop (header_size s) bytes

    len : ℕ
    len = tail_length s.tail (told_in s.fields fields) (length after)

    front : Front
    front = record { packet = record { head = head_in s.fields s.head fields; tail = take len after }; rest = drop len after }

    cut : (b : Bool) → reach_of_front (cond b (Err (Length len (length after))) (Ok front)) ≡ None
    cut true = refl
    cut false = none fields

    sized : (b : Bool) → reach_of_front (cond b (Err (Short (length bytes) (header_size s))) (cond (nat_lt (length after) len) (Err (Length len (length after))) (Ok front))) ≡ None
    sized true = refl
    sized false = cut (nat_lt (length after) len)

    go : (b : Bool) → reach_of_front (cond b (packet_of_shape s.kind (shape_of_type s.kind) bytes) (Err (OtherVersion version))) ≡ None
    go true = ap (λ o. reach_of_front (packet_of_shape s.kind o bytes)) by ∙ sized (nat_lt (length bytes) (header_size s))
    go false = refl

not_cut : (most : ℕ) (bytes : List ℕ) → reach_of bytes ≡ None → (is_too_long most (length bytes) && is_some (reach_of bytes)) ≡ false
not_cut most bytes none = and_right (is_too_long most (length bytes)) (is_some (reach_of bytes)) (ap is_some none)

message_whole : (most : ℕ) (source : Mac) (head : Head) (tail : List ℕ) → word_of head ≡ MessageOf source → GoesWhole most (sent_to_all head tail)
message_whole most source (IvOgm ttl flags seq orig prev tq) tail is = not_cut most (spelling (IvOgm ttl flags seq orig prev tq) tail) (reach_none iv_ogm refl (λ f. refl) (drop 1 (spelling (IvOgm ttl flags seq orig prev tq) tail)))
message_whole most source (Bcast ttl seq orig) tail is = cc
message_whole most source (Elp orig seq interval) tail is = cc
message_whole most source (Ogm2 ttl flags seq orig throughput) tail is = not_cut most (spelling (Ogm2 ttl flags seq orig throughput) tail) (reach_none ogm2 refl (λ f. refl) (drop 1 (spelling (Ogm2 ttl flags seq orig throughput) tail)))
message_whole most source (Unicast ttl ttvn dst) tail is = cc
message_whole most source (Frag ttl number priority dst orig seq total) tail is = cc
message_whole most source (Unicast4 ttl ttvn dst src subtype) tail is = cc
message_whole most source (Icmp ttl msg dst orig uid seq) tail is = cc
message_whole most source (Utvlv ttl dst src) tail is = cc

pub messages_whole : (most : ℕ) (source : Mac) (o : Option Head) (tail : List ℕ) → ((head : Head) → o ≡ Some head → IsMessageOf source head) → AllByRecursion (GoesWhole most) (message_acts o tail)
unfolding message_acts
messages_whole most source None tail of = tt
messages_whole most source (Some head) tail of = (message_whole most source head tail (of head refl).word, tt)

elp_whole : (most : ℕ) (head : Head) → is_elp head ≡ true → GoesWhole most (sent_to_all head [])
elp_whole most (IvOgm ttl flags seq orig prev tq) is = cc
elp_whole most (Bcast ttl seq orig) is = cc
elp_whole most (Elp orig seq interval) is = not_cut most (spelling (Elp orig seq interval) []) (reach_none elp refl (λ f. refl) (drop 1 (spelling (Elp orig seq interval) [])))
elp_whole most (Ogm2 ttl flags seq orig throughput) is = cc
elp_whole most (Unicast ttl ttvn dst) is = cc
elp_whole most (Frag ttl number priority dst orig seq total) is = cc
elp_whole most (Unicast4 ttl ttvn dst src subtype) is = cc
elp_whole most (Icmp ttl msg dst orig uid seq) is = cc
elp_whole most (Utvlv ttl dst src) is = cc

pub elps_whole : (most : ℕ) (o : Option Head) → ((head : Head) → o ≡ Some head → is_elp head ≡ true) → AllByRecursion (GoesWhole most) (message_acts o [])
unfolding message_acts
elps_whole most None of = tt
elps_whole most (Some head) of = (elp_whole most head (of head refl), tt)

-- events and frames on a LAN go whole
bridge_whole : (most : ℕ) (act : Act) → IsBridging act → GoesWhole most act
bridge_whole most _ (puts_on_lan bytes) = refl
bridge_whole most _ (hands_out at frame) = refl

bridges_whole : (most : ℕ) (acts : List Act) → AreBridging acts → AllByRecursion (GoesWhole most) acts
bridges_whole most [] all = tt
bridges_whole most (act ∷ acts) all = (bridge_whole most act all.0, bridges_whole most acts all.1)

pub round_whole : (most : ℕ) (at : Place) (bridge : Bridge) (index : ℕ) → AllByRecursion (GoesWhole most) (round_acts at bridge index)
round_whole most at bridge index = bridges_whole most (round_acts at bridge index) (round_puts at bridge index)

pub aliases_whole : (most : ℕ) (me : Mac) (before after : List Version) → AllByRecursion (GoesWhole most) (alias_acts me before after)
aliases_whole most me before after = go (length after == length before)
  where
    event : (o : Option ℕ) → AllByRecursion (GoesWhole most) (alias_event me (length before) o)
    event None = tt
    event (Some earlier) = (refl, tt)

    go : (b : Bool) → AllByRecursion (GoesWhole most) (cond b [] (alias_event me (length before) (last_alias after)))
    go true = tt
    go false = event (last_alias after)

-- ---- where no limit is passed
few_print : (cutter : Cutter) (acts : List Act) → cutter.cuts + cuts_among cutter.most acts ≤ 65535 → (event : Event) → Has acts (Print event) → Has (cut_acts cutter acts) (Print event)
few_print cutter [] few event has = absurd has
few_print cutter (one ∷ acts) few event has = go (is_cut cutter.most one) refl few has (λ cuts more there. few_print (record cutter { cuts = cuts }) acts more event there)
  where
    others : List Act
    others = filter (is_cut cutter.most) acts

    go : (b : Bool) → is_cut cutter.most one ≡ b → cutter.cuts + length (cond b (one ∷ others) others) ≤ 65535 → Has (one ∷ acts) (Print event)
        → ((cuts : ℕ) → cuts + length others ≤ 65535 → Has acts (Print event) → Has (cut_acts (record cutter { cuts = cuts }) acts) (Print event))
        → Has (cond (b && nat_le 65535 cutter.cuts) [] (cond b (fragment_acts cutter one) (one ∷ []) ++ cut_acts (cond b (record cutter { cuts = suc cutter.cuts }) cutter) acts)) (Print event)
    go true is few (inl same) rest = absurd (false≢true (ap (is_cut cutter.most) same ∙ is))
    go true is few (inr there) rest =
        let behind = cut_acts (record cutter { cuts = suc cutter.cuts }) acts in
        subst (λ full. Has (cond full [] (fragment_acts cutter one ++ behind)) (Print event)) (sym (lt-leb 65535 cutter.cuts (omega (arith, few))))
        (has_right (fragment_acts cutter one) behind (Print event) (rest (suc cutter.cuts) (omega (arith, few)) there))
    go false is few (inl same) rest = inl same
    go false is few (inr there) rest = inr (rest cutter.cuts few there)

-- each event that is to be printed is printed
pub print_stays : (cutter : Cutter) (acts : List Act) → passes_cuts cutter acts ≡ false → (event : Event) → Has acts (Print event) → Has (cut_acts cutter acts) (Print event)
print_stays cutter acts none event has = go (nat_lt 0 cutter.most) refl (nat_lt 65535 (cutter.cuts + cuts_among cutter.most acts)) refl none
  where
    go : (cuts : Bool) → nat_lt 0 cutter.most ≡ cuts → (full : Bool) → nat_lt 65535 (cutter.cuts + cuts_among cutter.most acts) ≡ full → (cuts && full) ≡ false → Has (cut_acts cutter acts) (Print event)
    go false off full is free =
        let low = ltb-false 0 cutter.most off in
        let most : cutter.most ≡ 0 = omega (arith, low) in
        subst (λ list. Has list (Print event)) (sym (nothing_is_cut cutter acts most)) has
    go true on true is free = cc
    go true on false is free = few_print cutter acts (ltb-false 65535 (cutter.cuts + cuts_among cutter.most acts) is) event has

limit_none : (setup : Setup) (actor : Actor) (mesh : Mesh) (o : Option NodeLimit) (step : Attempt) (after : Mesh) → unless_passed setup actor mesh o step ≡ Ok after → o ≡ None
limit_none setup actor mesh None step after e = refl
limit_none setup actor mesh (Some passed) step after e = absurd (go (after_acts setup actor passed.acts mesh) e)
  where
    go : (r : Attempt) → on_ok (λ m. Err passed.limit) r ≡ Ok after → ⊥
    go (Ok m) e = cc
    go (Err limit) e = cc

no_cut_limit : (client : Option NodeLimit) (cutter : Cutter) (acts : List Act) → option_or client (cut_limit cutter acts) ≡ None → passes_cuts cutter acts ≡ false
no_cut_limit (Some limit) cutter acts none = cc
no_cut_limit None cutter acts none = go (passes_cuts cutter acts) none
  where
    passed : NodeLimit
    passed = record { acts = cut_acts cutter acts; limit = Cuts }

    go : (b : Bool) → cond {A = Option NodeLimit} b (Some passed) None ≡ None → b ≡ false
    go true e = cc
    go false e = refl

-- an input that a node is given passes no limit of cuts
pub none_passed : (queries : Mac → Queries) (place now root : ℕ) (node : NodeLog) (given : Given) (mesh after : Mesh) → slice_get mesh.nodes place ≡ Some node → given_to (scenario_setup queries) place now root given mesh ≡ Ok after
    → passes_cuts (cutter_by (queries node.mac) node.mac node.log) (whole_acts (queries node.mac) node.mac node.log now given) ≡ false
none_passed queries place now root node given mesh after found e =
    let setup = scenario_setup queries in
    let actor : Actor = record { place = place; mac = node.mac; now = now; root = root } in
    no_cut_limit (client_limit node.mac node.log now given) (cutter_by (queries node.mac) node.mac node.log) (whole_acts (queries node.mac) node.mac node.log now given)
    (limit_none setup actor mesh (setup.node_limit node.mac node.log now given) (after_entry setup actor (entry_of setup node now given) mesh) after
    (ap (λ (o : Option NodeLog). given_node setup place now root given o mesh) (sym found) ∙ e))
