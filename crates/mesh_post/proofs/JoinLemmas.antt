-- What is kept of a mesh after a node or a link joined it.
use Rattle.std.proofs.Common.{◌≡◌, ◌↔◌, ℕ, zero, suc, ◌+◌, ◌<◌, ◌⊎◌, inl, inr, nat_eq, ◌&&◌, Bool, true, cond, if◌then◌else◌, replicate, List, [], ◌∷◌, ◌++◌, map, length, slice_get, slice_set, slice_index_or, Some, None, refl, sym, ap, ◌∙◌, subst, arith, append_assoc, append-nil}
use Rattle.std.specs.Option.{option_map_or}
use Rattle.std.proofs.lemmas.Bool.{eq-eqb, ne_eqb}
use Rattle.std.proofs.lemmas.List.{length-set}
use Rattle.std.proofs.lemmas.Option.{get_or_from_slice_get}
use Rattle.mesh_base.specs.declared.address.Mac.{Mac}
use Rattle.mesh_model.specs.declared.happening.Happening.{Happening}
use Rattle.mesh_model.specs.Net.Due.{arrivals, arrivals_over, delivery_at, deliveries, first_ticks, lan_deliveries, tick_at, ticks_in}
use Rattle.mesh_model.specs.Net.Happenings.{Before}
use Rattle.mesh_model.specs.Net.Mesh.{NodeLog, NetLink, SentFrame, LanPut, Mesh, address_at}
use Rattle.mesh_model.specs.Net.Next.{Has}
use Rattle.mesh_model.specs.Net.Sending.{frames_on, ways}
use Rattle.mesh_laws.proofs.Schedule.Members.{has_left, has_right, has_either}
use Rattle.mesh_laws.proofs.Schedule.Steps.{get_front}
use Rattle.mesh_post.specs.declared.post.Post.{Post}
use Rattle.mesh_post.specs.declared.row.Row.{Row}
use Rattle.mesh_post.specs.declared.row.Sending.{Sending}
use Rattle.mesh_post.specs.Kept.{HasRow, RowIs, RowsAre, TurnsAre, WaysAre}
use Rattle.mesh_post.specs.Sent.{InStep}
use Rattle.mesh_post.specs.Waiting.{Awaits, all_deliveries}
use Rattle.mesh_post.proofs.ActLemmas.{got_last}
use Rattle.mesh_post.proofs.LookUps.{got_there, some_one}
use Rattle.mesh_post.proofs.PostLemmas.{length_more, set_got}

-- an item of a list with one more at its end, and its place
got_more : {X : Type 0} (xs : List X) (y : X) (i : ℕ) (x : X) → slice_get (xs ++ y ∷ []) i ≡ Some x → (slice_get xs i ≡ Some x) ⊎ ((i ≡ length xs) × (x ≡ y))
got_more [] y zero x e = inr (refl, sym (some_one y x e))
got_more [] y (suc i) x e = cc
got_more (z ∷ xs) y zero x e = inl e
got_more (z ∷ xs) y (suc i) x e = elim (got_more xs y i x e) as (λ _. (slice_get (z ∷ xs) (suc i) ≡ Some x) ⊎ ((suc i ≡ length (z ∷ xs)) × (x ≡ y))) [
  | inl p ↦ inl p
  | inr p ↦ inr (ap suc p.0, p.1)
]

-- ---- a node joined
abbrev zero_mac : Mac
zero_mac = record { 0 = replicate 6 0 }

address_kept : (nodes : List NodeLog) (node : NodeLog) (place : ℕ) → place < length nodes → address_at place (nodes ++ node ∷ []) ≡ address_at place nodes
address_kept nodes node place l =
    let there = got_there nodes place l in
    ap (λ o. option_map_or (λ (n : NodeLog). n.mac) o zero_mac) (get_front nodes (node ∷ []) place there.0 there.1 ∙ sym there.1)

row_kept : (nodes : List NodeLog) (node : NodeLog) (link : NetLink) (row : Row) → RowIs nodes link row → RowIs (nodes ++ node ∷ []) link row
row_kept nodes node link row is =
    let starts = is.starts in
    let ends = is.ends in
    let more = length_more nodes node in
    record {
      from = is.from;
      to = is.to;
      start = is.start ∙ sym (address_kept nodes node link.from starts);
      end = is.end ∙ sym (address_kept nodes node link.to ends);
      delay = is.delay;
      pattern = is.pattern;
      throughput = is.throughput;
      starts = omega (arith, starts, more);
      ends = omega (arith, ends, more);
      least = is.least;
      most = is.most;
    }

pub rows_kept : (nodes : List NodeLog) (node : NodeLog) (links : List NetLink) (rows : List Row) → RowsAre nodes links rows → RowsAre (nodes ++ node ∷ []) links rows
rows_kept nodes node links rows all = record {
  count = all.count;
  each = λ place link found. let h = all.each place link found in record { row = h.row; found = h.found; is = row_kept nodes node link h.row h.is };
}

-- no link leaves a node that comes after those they leave
no_ways : (node place : ℕ) (links : List NetLink) → ((i : ℕ) (link : NetLink) → slice_get links i ≡ Some link → link.from < node) → ways [] node None place links ≡ []
no_ways node place [] low = refl
no_ways node place (link ∷ rest) low =
    ap (λ b. (if b && true then place ∷ [] else []) ++ ways [] node None (suc place) rest) (ne_eqb link.from node (λ e. let l = low 0 link refl in omega (arith, l, e)))
    ∙ no_ways node (suc place) rest (λ i x e. low (suc i) x e)

ways_more_node : (nodes : List NodeLog) (node : NodeLog) (links : List NetLink) (rows : List Row) (places : List (List ℕ)) → RowsAre nodes links rows → WaysAre nodes links places → WaysAre (nodes ++ node ∷ []) links (places ++ [] ∷ [])
ways_more_node nodes node links rows places rows_are all = record {
  count = length_more places [] ∙ ap suc all.count ∙ sym (length_more nodes node);
  each = λ place leaving found. elim (got_more places [] place leaving found) as (λ _. leaving ≡ ways [] place None 0 links) [
    | inl p ↦ all.each place leaving p
    | inr p ↦ p.1 ∙ sym (no_ways place 0 links (λ i link e. subst (λ n. link.from < n) (sym (p.0 ∙ all.count)) (rows_are.each i link e).is.starts))
  ];
}

pub ways_kept : (nodes : List NodeLog) (node : NodeLog) (links : List NetLink) (rows : List Row) (old new : List (List ℕ)) (own : List ℕ) → new ≡ old ++ own ∷ [] → own ≡ [] → RowsAre nodes links rows → WaysAre nodes links old → WaysAre (nodes ++ node ∷ []) links new
ways_kept nodes node links rows old new own more none rows_are all = subst (WaysAre (nodes ++ node ∷ []) links) (sym (more ∙ ap (λ ws. old ++ ws ∷ []) none)) (ways_more_node nodes node links rows old rows_are all)

pub ticks_more : (start : ℕ) (nodes : List NodeLog) (node : NodeLog) → first_ticks start (nodes ++ node ∷ []) ≡ first_ticks start nodes ++ tick_at (start + length nodes) node (suc (ticks_in node.log)) ∷ []
ticks_more start [] node = ap (λ p. tick_at p node (suc (ticks_in node.log)) ∷ []) (omega arith)
ticks_more start (x ∷ xs) node =
    ap (λ hs. tick_at start x (suc (ticks_in x.log)) ∷ hs) (ticks_more (suc start) xs node)
    ∙ ap (λ p. tick_at start x (suc (ticks_in x.log)) ∷ (first_ticks (suc start) xs ++ tick_at p node (suc (ticks_in node.log)) ∷ [])) (omega arith)

-- one tick more waits
pub awaits_tick : (old new : List Happening) (last : Happening) (ticks : List Happening) (links : List NetLink) (frames : List SentFrame) (puts : List LanPut) (h : Happening) → Awaits old last ticks links frames puts → ((x : Happening) → Has new x ↔ (x ≡ h) ⊎ Has old x) → Awaits new last (ticks ++ h ∷ []) links frames puts
awaits_tick old new last ticks links frames puts h waits joined x = (λ p. to ((joined x).0 p), from)
  where
    kept : (Has (all_deliveries links frames puts) x × Before last x) ⊎ Has ticks x → (Has (all_deliveries links frames puts) x × Before last x) ⊎ Has (ticks ++ h ∷ []) x
    kept (inl p) = inl p
    kept (inr p) = inr (has_left ticks (h ∷ []) x p)

    to : (x ≡ h) ⊎ Has old x → (Has (all_deliveries links frames puts) x × Before last x) ⊎ Has (ticks ++ h ∷ []) x
    to (inl e) = inr (has_right ticks (h ∷ []) x (inl e))
    to (inr p) = kept ((waits x).0 p)

    one : Has ticks x ⊎ Has (h ∷ []) x → Has new x
    one (inl p) = (joined x).1 (inr ((waits x).1 (inr p)))
    one (inr (inl e)) = (joined x).1 (inl e)
    one (inr (inr p)) = absurd p

    from : (Has (all_deliveries links frames puts) x × Before last x) ⊎ Has (ticks ++ h ∷ []) x → Has new x
    from (inl p) = (joined x).1 (inr ((waits x).1 (inl p)))
    from (inr p) = one (has_either ticks (h ∷ []) x p)

-- other ticks wait, which are the same
pub step_ticks : (post : Post) (older : List Sending) (last : Happening) (old new : List Happening) (mesh : Mesh) → old ≡ new → InStep post older last old mesh → InStep post older last new mesh
step_ticks post older last old new mesh same step = subst (λ ticks. InStep post older last ticks mesh) same step

-- ---- a link joined
abbrev AreOn : List NetLink → List SentFrame → Type 0
AreOn links frames = (i : ℕ) (f : SentFrame) → slice_get frames i ≡ Some f → f.link < length links

none_on : (way : ℕ) (frames : List SentFrame) → ((i : ℕ) (f : SentFrame) → slice_get frames i ≡ Some f → f.link < way) → frames_on way frames ≡ 0
none_on way [] low = refl
none_on way (f ∷ fs) low =
    let more = none_on way fs (λ i x e. low (suc i) x e) in
    ap (λ b. cond b 1 0 + frames_on way fs) (ne_eqb f.link way (λ e. let l = low 0 f refl in omega (arith, l, e))) ∙ omega (arith, more)

pub turns_linked : (links : List NetLink) (link : NetLink) (frames : List SentFrame) (turns : List ℕ) → AreOn links frames → TurnsAre links frames turns → TurnsAre (links ++ link ∷ []) frames (turns ++ 0 ∷ [])
turns_linked links link frames turns on all = record {
  count = length_more turns 0 ∙ ap suc all.count ∙ sym (length_more links link);
  each = λ place turn found. elim (got_more turns 0 place turn found) as (λ _. turn ≡ frames_on place frames) [
    | inl p ↦ all.each place turn p
    | inr p ↦ p.1 ∙ sym (none_on place frames (λ i f e. subst (λ n. f.link < n) (sym (p.0 ∙ all.count)) (on i f e)))
  ];
}

pub rows_linked : (nodes : List NodeLog) (links : List NetLink) (link : NetLink) (rows : List Row) (row : Row) → RowsAre nodes links rows → RowIs nodes link row → RowsAre nodes (links ++ link ∷ []) (rows ++ row ∷ [])
rows_linked nodes links link rows row all is = record {
  count = length_more rows row ∙ ap suc all.count ∙ sym (length_more links link);
  each = λ place x found. elim (got_more links link place x found) as (λ _. HasRow nodes (rows ++ row ∷ []) place x) [
    | inl p ↦ let h = all.each place x p in record { row = h.row; found = get_front rows (row ∷ []) place h.row h.found; is = h.is }
    | inr p ↦ record { row = row; found = ap (slice_get (rows ++ row ∷ [])) (p.0 ∙ sym all.count) ∙ got_last rows row; is = subst (λ l. RowIs nodes l row) (sym p.1) is }
  ];
}

abbrev one_way : Bool → ℕ → List ℕ
one_way test way = if test && true then way ∷ [] else []

ways_more : (sender place : ℕ) (links : List NetLink) (link : NetLink) → ways [] sender None place (links ++ link ∷ []) ≡ ways [] sender None place links ++ one_way (nat_eq link.from sender) (place + length links)
ways_more sender place [] link = append-nil (one_way (nat_eq link.from sender) place) ∙ ap (one_way (nat_eq link.from sender)) (omega arith)
ways_more sender place (x ∷ xs) link =
    ap (λ ws. one_way (nat_eq x.from sender) place ++ ws) (ways_more sender (suc place) xs link)
    ∙ sym (append_assoc (one_way (nat_eq x.from sender) place) (ways [] sender None (suc place) xs) (one_way (nat_eq link.from sender) (suc place + length xs)))
    ∙ ap (λ p. (one_way (nat_eq x.from sender) place ++ ways [] sender None (suc place) xs) ++ one_way (nat_eq link.from sender) p) (omega arith)

ways_end : (sender : ℕ) (links : List NetLink) (link : NetLink) → ways [] sender None 0 (links ++ link ∷ []) ≡ ways [] sender None 0 links ++ one_way (nat_eq link.from sender) (length links)
ways_end sender links link = ways_more sender 0 links link ∙ ap (λ p. ways [] sender None 0 links ++ one_way (nat_eq link.from sender) p) (omega arith)

pub ways_linked : (nodes : List NodeLog) (links : List NetLink) (link : NetLink) (places : List (List ℕ)) (way : ℕ) → link.from < length nodes → way ≡ length links → WaysAre nodes links places → WaysAre nodes (links ++ link ∷ []) (slice_set places link.from (slice_index_or places link.from [] ++ way ∷ []))
ways_linked nodes links link places way low last all = record {
  count = length-set places link.from (slice_index_or places link.from [] ++ way ∷ []) ∙ all.count;
  each = λ place leaving found. elim (set_got places link.from place (slice_index_or places link.from [] ++ way ∷ []) leaving found) as (λ _. leaving ≡ ways [] place None 0 (links ++ link ∷ [])) [
    | inl p ↦ p.1 ∙ here ∙ ap (λ w. ways [] w None 0 (links ++ link ∷ [])) p.0
    | inr p ↦ all.each place leaving p.1 ∙ sym (append-nil (ways [] place None 0 links))
        ∙ ap (λ b. ways [] place None 0 links ++ one_way b (length links)) (sym (ne_eqb link.from place p.0)) ∙ sym (ways_end place links link)
  ];
}
  where
    read : slice_index_or places link.from [] ≡ ways [] link.from None 0 links
    read =
        let there = got_there places link.from (subst (λ n. link.from < n) (sym all.count) low) in
        get_or_from_slice_get places link.from there.0 [] there.1 ∙ all.each link.from there.0 there.1

    here : slice_index_or places link.from [] ++ way ∷ [] ≡ ways [] link.from None 0 (links ++ link ∷ [])
    here =
        ap (λ ws. ws ++ way ∷ []) read
        ∙ ap (λ w. ways [] link.from None 0 links ++ w ∷ []) last
        ∙ ap (λ b. ways [] link.from None 0 links ++ one_way b (length links)) (sym (eq-eqb link.from link.from refl))
        ∙ sym (ways_end link.from links link)

same_arrivals : (links : List NetLink) (link : NetLink) (f : SentFrame) → f.link < length links → arrivals (links ++ link ∷ []) f ≡ arrivals links f
same_arrivals links link f low =
    let there = got_there links f.link low in
    ap (λ o. arrivals_over o f) (get_front links (link ∷ []) f.link there.0 there.1 ∙ sym there.1)

same_deliveries : (links : List NetLink) (link : NetLink) (start : ℕ) (frames : List SentFrame) → AreOn links frames → deliveries (links ++ link ∷ []) start frames ≡ deliveries links start frames
same_deliveries links link start [] on = refl
same_deliveries links link start (f ∷ fs) on =
    ap (λ ms. map (delivery_at start) ms ++ deliveries (links ++ link ∷ []) (suc start) fs) (same_arrivals links link f (on 0 f refl))
    ∙ ap (λ hs. map (delivery_at start) (arrivals links f) ++ hs) (same_deliveries links link (suc start) fs (λ i x e. on (suc i) x e))

pub awaits_linked : (waiting : List Happening) (last : Happening) (ticks : List Happening) (links : List NetLink) (link : NetLink) (frames : List SentFrame) (puts : List LanPut) → AreOn links frames → Awaits waiting last ticks links frames puts → Awaits waiting last ticks (links ++ link ∷ []) frames puts
awaits_linked waiting last ticks links link frames puts on waits = subst (λ hs. (x : Happening) → Has waiting x ↔ (Has (hs ++ lan_deliveries 0 puts) x × Before last x) ⊎ Has ticks x) (sym (same_deliveries links link 0 frames on)) waits
