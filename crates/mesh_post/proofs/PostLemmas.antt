-- What is kept of frames, after one more is sent.
use Rattle.std.proofs.Common.{◌≡◌, ◌↔◌, ℕ, zero, suc, ◌+◌, ◌%◌, ◌<◌, ◌≤◌, ◌⊎◌, inl, inr, nat_eq, cond, List, [], ◌∷◌, ◌++◌, map, length, slice_get, slice_set, slice_index_or, Option, Some, refl, sym, ap, ◌∙◌, subst, arith, append_assoc, append-nil, length-append}
use Rattle.std.proofs.lemmas.Bool.{eq-eqb, ne_eqb}
use Rattle.std.proofs.lemmas.List.{length-set}
use Rattle.mesh_post.proofs.LookUps.{some_one}
use Rattle.mesh_model.specs.declared.happening.Happening.{Happening}
use Rattle.mesh_base.specs.declared.event.Reason.{Reason}
use Rattle.mesh_model.specs.Net.Due.{arrivals, arrivals_by, arrivals_over, delivery_at, deliveries, fate_of_mark, lan_deliveries, lan_delivery_at}
use Rattle.mesh_model.specs.Net.Happenings.{Before}
use Rattle.mesh_model.specs.Net.Mesh.{NetLink, SentFrame, LanPut, Mesh}
use Rattle.mesh_model.specs.Net.Next.{Has}
use Rattle.mesh_model.specs.Net.Sending.{frames_on, put_bytes, total_bytes}
use Rattle.mesh_model.specs.Scenario.Terms.{held_mark}
use Rattle.mesh_post.specs.declared.posted.Posted.{Posted}
use Rattle.mesh_post.specs.declared.row.Put.{Put}
use Rattle.mesh_post.specs.declared.row.Sending.{Sending}
use Rattle.mesh_post.specs.declared.post.Post.{Post}
use Rattle.mesh_post.specs.declared.row.Lane.{Lane}
use Rattle.mesh_post.specs.declared.row.Sender.{Sender}
use Rattle.mesh_post.specs.Kept.{RowsAre, WaysAre, FrameIs, FramesAre, PutIs, PutsAre, TurnsAre}
use Rattle.mesh_post.specs.Lanes.{LaneIs}
use Rattle.mesh_post.specs.Sent.{next_frame, sent_on, actor_of, IsSending, Gained, Amid, HasRoom, Carries}
use Rattle.mesh_post.specs.Waiting.{Awaits, all_deliveries}
use Rattle.mesh_laws.proofs.Schedule.Added.{later_of}
use Rattle.mesh_laws.proofs.Schedule.Members.{has_left, has_right, has_either, map_has}
use Rattle.mesh_laws.proofs.Schedule.Order.{by_moment}

-- the frames that a link carried, with one more frame
pub on_more : (place : ℕ) (frames : List SentFrame) (f : SentFrame) → frames_on place (frames ++ f ∷ []) ≡ frames_on place frames + cond (nat_eq f.link place) 1 0
on_more place [] f = omega arith
on_more place (x ∷ xs) f = ap (λ n. cond (nat_eq x.link place) 1 0 + n) (on_more place xs f) ∙ omega arith

-- the bytes of frames, with one more frame
pub bytes_more : (frames : List SentFrame) (f : SentFrame) → total_bytes (frames ++ f ∷ []) ≡ total_bytes frames + length f.bytes
bytes_more [] f = omega arith
bytes_more (x ∷ xs) f = ap (λ n. length x.bytes + n) (bytes_more xs f) ∙ omega arith

pub length_more : {X : Type 0} (xs : List X) (x : X) → length (xs ++ x ∷ []) ≡ suc (length xs)
length_more xs x = length-append xs (x ∷ []) ∙ omega arith

-- frames that are kept, with one more
pub frames_more : (sendings : List Sending) (frames : List SentFrame) (kept : List Posted) (f : SentFrame) (p : Posted) → FramesAre sendings frames kept → FrameIs sendings f p → FramesAre sendings (frames ++ f ∷ []) (kept ++ p ∷ [])
frames_more sendings [] [] f p all is = (is, tt)
frames_more sendings [] (q ∷ kept) f p all is = absurd all
frames_more sendings (x ∷ frames) [] f p all is = absurd all
frames_more sendings (x ∷ frames) (q ∷ kept) f p all is = (all.0, frames_more sendings frames kept f p all.1 is)

pub frames_length : (sendings : List Sending) (frames : List SentFrame) (kept : List Posted) → FramesAre sendings frames kept → length kept ≡ length frames
frames_length sendings [] [] all = refl
frames_length sendings [] (q ∷ kept) all = absurd all
frames_length sendings (x ∷ frames) [] all = absurd all
frames_length sendings (x ∷ frames) (q ∷ kept) all = ap suc (frames_length sendings frames kept all.1)

-- the deliveries of frames, with one more frame
pub deliveries_more : (links : List NetLink) (start : ℕ) (frames : List SentFrame) (f : SentFrame) → deliveries links start (frames ++ f ∷ []) ≡ deliveries links start frames ++ map (delivery_at (start + length frames)) (arrivals links f)
deliveries_more links start [] f = append-nil (map (delivery_at start) (arrivals links f)) ∙ ap (λ p. map (delivery_at p) (arrivals links f)) (omega arith)
deliveries_more links start (x ∷ xs) f =
    ap (λ hs. map (delivery_at start) (arrivals links x) ++ hs) (deliveries_more links (suc start) xs f)
    ∙ sym (append_assoc (map (delivery_at start) (arrivals links x)) (deliveries links (suc start) xs) (map (delivery_at (suc start + length xs)) (arrivals links f)))
    ∙ ap (λ p. (map (delivery_at start) (arrivals links x) ++ deliveries links (suc start) xs) ++ map (delivery_at p) (arrivals links f)) (omega arith)

-- LAN frames that are kept, with one more
pub puts_more : (sendings : List Sending) (puts : List LanPut) (kept : List Put) (p : LanPut) (k : Put) → PutsAre sendings puts kept → PutIs sendings p k → PutsAre sendings (puts ++ p ∷ []) (kept ++ k ∷ [])
puts_more sendings [] [] p k all is = (is, tt)
puts_more sendings [] (q ∷ kept) p k all is = absurd all
puts_more sendings (x ∷ puts) [] p k all is = absurd all
puts_more sendings (x ∷ puts) (q ∷ kept) p k all is = (all.0, puts_more sendings puts kept p k all.1 is)

pub puts_length : (sendings : List Sending) (puts : List LanPut) (kept : List Put) → PutsAre sendings puts kept → length kept ≡ length puts
puts_length sendings [] [] all = refl
puts_length sendings [] (q ∷ kept) all = absurd all
puts_length sendings (x ∷ puts) [] all = absurd all
puts_length sendings (x ∷ puts) (q ∷ kept) all = ap suc (puts_length sendings puts kept all.1)

-- the bytes of LAN frames, with one more
pub put_bytes_more : (puts : List LanPut) (p : LanPut) → put_bytes (puts ++ p ∷ []) ≡ put_bytes puts + length p.bytes
put_bytes_more [] p = omega arith
put_bytes_more (x ∷ xs) p = ap (λ n. length x.bytes + n) (put_bytes_more xs p) ∙ omega arith

-- the deliveries of LAN frames, with one more
pub lan_deliveries_more : (start : ℕ) (puts : List LanPut) (p : LanPut) → lan_deliveries start (puts ++ p ∷ []) ≡ lan_deliveries start puts ++ lan_delivery_at (start + length puts) p ∷ []
lan_deliveries_more start [] p = ap (λ n. lan_delivery_at n p ∷ []) (omega arith)
lan_deliveries_more start (x ∷ xs) p =
    ap (λ hs. lan_delivery_at start x ∷ hs) (lan_deliveries_more (suc start) xs p)
    ∙ ap (λ n. lan_delivery_at start x ∷ (lan_deliveries (suc start) xs ++ lan_delivery_at n p ∷ [])) (omega arith)

-- what a look-up finds in a list of which one item was set: that item at its place, or what was there
pub set_got : {X : Type 0} (xs : List X) (i j : ℕ) (y z : X) → slice_get (slice_set xs i y) j ≡ Some z → ((i ≡ j) × (z ≡ y)) ⊎ ((i ≡ j → ⊥) × (slice_get xs j ≡ Some z))
set_got [] i j y z e = cc
set_got (x ∷ xs) zero zero y z e = inl (refl, sym (some_one y z e))
set_got (x ∷ xs) zero (suc j) y z e = inr (λ q. omega (arith, q), e)
set_got (x ∷ xs) (suc i) zero y z e = inr (λ q. omega (arith, q), e)
set_got (x ∷ xs) (suc i) (suc j) y z e = elim (set_got xs i j y z e) as (λ _. ((suc i ≡ suc j) × (z ≡ y)) ⊎ ((suc i ≡ suc j → ⊥) × (slice_get xs j ≡ Some z))) [
  | inl p ↦ inl (ap suc p.0, p.1)
  | inr p ↦ inr (λ q. p.0 (omega (arith, q)), p.1)
]

-- how many frames each link carried, with one more frame
pub turns_more : (links : List NetLink) (frames : List SentFrame) (turns : List ℕ) (f : SentFrame) (way : ℕ) → f.link ≡ way → TurnsAre links frames turns → TurnsAre links (frames ++ f ∷ []) (slice_set turns way (suc (frames_on way frames)))
turns_more links frames turns f way is all = record {
  count = length-set turns way (suc (frames_on way frames)) ∙ all.count;
  each = λ place turn found. elim (set_got turns way place (suc (frames_on way frames)) turn found) as (λ _. turn ≡ frames_on place (frames ++ f ∷ [])) [
    | inl p ↦ p.1 ∙ ap (λ w. suc (frames_on w frames)) p.0 ∙ omega arith ∙ ap (λ b. frames_on place frames + cond b 1 0) (sym (eq-eqb f.link place (is ∙ p.0))) ∙ sym (on_more place frames f)
    | inr p ↦ all.each place turn p.1 ∙ omega arith ∙ ap (λ b. frames_on place frames + cond b 1 0) (sym (ne_eqb f.link place (λ q. p.0 (sym is ∙ q)))) ∙ sym (on_more place frames f)
  ];
}

-- ---- what waits
-- a frame's deliveries come after a happening that isn't after its sending
all_after : (last : Happening) (place : ℕ) (moments : List ℕ) → ((m : ℕ) → Has moments m → last.moment < m) → (x : Happening) → Has (map (delivery_at place) moments) x → Before last x
all_after last place moments late x h =
    let p = map_has (delivery_at place) moments x h in
    let l = late p.0 p.1 in
    by_moment last x (subst (λ (y : Happening). last.moment < y.moment) (sym p.2) l)

-- those wait that come after a happening, and these ticks
abbrev AwaitsOf : List Happening → Happening → List Happening → List Happening → Type 0
AwaitsOf waiting last ticks comings = (x : Happening) → Has waiting x ↔ (Has comings x × Before last x) ⊎ Has ticks x

-- more come, all after that happening, and wait
gained_waits : (old new : List Happening) (last : Happening) (ticks before after more : List Happening) → ((x : Happening) → Has after x ↔ Has more x ⊎ Has before x) → ((x : Happening) → Has more x → Before last x)
    → AwaitsOf old last ticks before → Gained old new more → AwaitsOf new last ticks after
gained_waits old new last ticks before after more come late waits gained x = (λ h. joined ((gained x).0 h), from)
  where
    kept : (Has before x × Before last x) ⊎ Has ticks x → (Has after x × Before last x) ⊎ Has ticks x
    kept (inl p) = inl ((come x).1 (inr p.0), p.1)
    kept (inr p) = inr p

    joined : Has more x ⊎ Has old x → (Has after x × Before last x) ⊎ Has ticks x
    joined (inl p) = inl ((come x).1 (inl p), late x p)
    joined (inr p) = kept ((waits x).0 p)

    one : Has more x ⊎ Has before x → Before last x → Has new x
    one (inl p) b = (gained x).1 (inl p)
    one (inr p) b = (gained x).1 (inr ((waits x).1 (inl (p, b))))

    from : (Has after x × Before last x) ⊎ Has ticks x → Has new x
    from (inl p) = one ((come x).0 p.0) p.1
    from (inr p) = (gained x).1 (inr ((waits x).1 (inr p)))

-- what stands in a list with more behind its front
has_between : (front back more : List Happening) (x : Happening) → Has ((front ++ more) ++ back) x ↔ Has more x ⊎ Has (front ++ back) x
has_between front back more x = (λ h. to (has_either (front ++ more) back x h), from)
  where
    first : Has front x ⊎ Has more x → Has more x ⊎ Has (front ++ back) x
    first (inl p) = inr (has_left front back x p)
    first (inr p) = inl p

    to : Has (front ++ more) x ⊎ Has back x → Has more x ⊎ Has (front ++ back) x
    to (inl p) = first (has_either front more x p)
    to (inr p) = inr (has_right front back x p)

    rest : Has front x ⊎ Has back x → Has ((front ++ more) ++ back) x
    rest (inl p) = has_left (front ++ more) back x (has_left front more x p)
    rest (inr p) = has_right (front ++ more) back x p

    from : Has more x ⊎ Has (front ++ back) x → Has ((front ++ more) ++ back) x
    from (inl p) = has_left (front ++ more) back x (has_right front more x p)
    from (inr p) = rest (has_either front back x p)

-- or behind its end
has_behind : (front back more : List Happening) (x : Happening) → Has (front ++ (back ++ more)) x ↔ Has more x ⊎ Has (front ++ back) x
has_behind front back more x = (λ h. to (has_either front (back ++ more) x h), from)
  where
    last_two : Has back x ⊎ Has more x → Has more x ⊎ Has (front ++ back) x
    last_two (inl p) = inr (has_right front back x p)
    last_two (inr p) = inl p

    to : Has front x ⊎ Has (back ++ more) x → Has more x ⊎ Has (front ++ back) x
    to (inl p) = inr (has_left front back x p)
    to (inr p) = last_two (has_either back more x p)

    rest : Has front x ⊎ Has back x → Has (front ++ (back ++ more)) x
    rest (inl p) = has_left front (back ++ more) x p
    rest (inr p) = has_right front (back ++ more) x (has_left back more x p)

    from : Has more x ⊎ Has (front ++ back) x → Has (front ++ (back ++ more)) x
    from (inl p) = has_right front (back ++ more) x (has_right back more x p)
    from (inr p) = rest (has_either front back x p)

pub awaits_more : (old new : List Happening) (last : Happening) (ticks : List Happening) (links : List NetLink) (frames : List SentFrame) (puts : List LanPut) (f : SentFrame) → ((x : Happening) → Has (map (delivery_at (length frames)) (arrivals links f)) x → Before last x)
    → Awaits old last ticks links frames puts → Gained old new (map (delivery_at (length frames)) (arrivals links f)) → Awaits new last ticks links (frames ++ f ∷ []) puts
awaits_more old new last ticks links frames puts f after waits gained =
    gained_waits old new last ticks (all_deliveries links frames puts) (all_deliveries links (frames ++ f ∷ []) puts) more come after waits gained
  where
    more : List Happening
    more = map (delivery_at (length frames)) (arrivals links f)

    all_is : deliveries links 0 (frames ++ f ∷ []) ≡ deliveries links 0 frames ++ more
    all_is = deliveries_more links 0 frames f ∙ ap (λ p. deliveries links 0 frames ++ map (delivery_at p) (arrivals links f)) (omega arith)

    come : (x : Happening) → Has (all_deliveries links (frames ++ f ∷ []) puts) x ↔ Has more x ⊎ Has (all_deliveries links frames puts) x
    come x = subst (λ hs. Has (hs ++ lan_deliveries 0 puts) x ↔ Has more x ⊎ Has (all_deliveries links frames puts) x) (sym all_is) (has_between (deliveries links 0 frames) (lan_deliveries 0 puts) more x)

-- a LAN frame's delivery waits, too
pub awaits_put : (old new : List Happening) (last : Happening) (ticks : List Happening) (links : List NetLink) (frames : List SentFrame) (puts : List LanPut) (p : LanPut) → last.moment ≤ p.moment
    → Awaits old last ticks links frames puts → Gained old new (lan_delivery_at (length puts) p ∷ []) → Awaits new last ticks links frames (puts ++ p ∷ [])
awaits_put old new last ticks links frames puts p late waits gained =
    gained_waits old new last ticks (all_deliveries links frames puts) (all_deliveries links frames (puts ++ p ∷ [])) more come after waits gained
  where
    more : List Happening
    more = lan_delivery_at (length puts) p ∷ []

    all_is : lan_deliveries 0 (puts ++ p ∷ []) ≡ lan_deliveries 0 puts ++ more
    all_is = lan_deliveries_more 0 puts p ∙ ap (λ n. lan_deliveries 0 puts ++ lan_delivery_at n p ∷ []) (omega arith)

    come : (x : Happening) → Has (all_deliveries links frames (puts ++ p ∷ [])) x ↔ Has more x ⊎ Has (all_deliveries links frames puts) x
    come x = subst (λ hs. Has (deliveries links 0 frames ++ hs) x ↔ Has more x ⊎ Has (all_deliveries links frames puts) x) (sym all_is) (has_behind (deliveries links 0 frames) (lan_deliveries 0 puts) more x)

    after : (x : Happening) → Has more x → Before last x
    after x (inl e) = by_moment last x (subst (λ (y : Happening). last.moment < y.moment) (sym e) (omega (arith, late)))
    after x (inr h) = absurd h

-- when a frame arrives, by what its link's next frame finds
arrivals_are : (mesh : Mesh) (way : ℕ) (link : NetLink) (lane : Lane) (f : SentFrame) → LaneIs mesh way link lane → f.link ≡ way → f.turn ≡ frames_on way mesh.frames → slice_get mesh.links way ≡ Some link → arrivals mesh.links f ≡ arrivals_by (fate_of_mark lane.mark) f.moment lane.delay
arrivals_are mesh way link lane f is on turn found =
    ap (λ w. arrivals_over (slice_get mesh.links w) f) on
    ∙ ap (λ o. arrivals_over o f) found
    ∙ ap (λ t. arrivals_by (fate_of_mark (slice_index_or link.pattern (t % length link.pattern) held_mark)) f.moment link.delay) (turn ∙ sym is.turn)
    ∙ ap (λ m. arrivals_by (fate_of_mark m) f.moment link.delay) (sym is.mark)
    ∙ ap (arrivals_by (fate_of_mark lane.mark) f.moment) (sym is.delay)

pub carries : (old new : Post) (sender : Sender) (reason : Option Reason) (parcel way : ℕ) (bytes : List ℕ) (lane : Lane) (sendings : List Sending) (last : Happening) (ticks : List Happening) (mesh : Mesh) (link : NetLink)
    → Amid old sendings last ticks mesh → slice_get mesh.links way ≡ Some link → LaneIs mesh way link lane → IsSending sendings parcel bytes sender.root → HasRoom mesh sender.now (length bytes) → last.moment ≤ sender.now
    → Carries old new sender parcel (length bytes) way lane → Amid new sendings last ticks (sent_on (actor_of sender) reason bytes way mesh)
carries old new sender reason parcel way bytes lane sendings last ticks mesh link amid found is sending room late c = record {
  stands = record {
    rows = subst (RowsAre mesh.nodes mesh.links) (sym c.rows) amid.stands.rows;
    turns = subst (TurnsAre mesh.links (mesh.frames ++ f ∷ [])) (sym (c.turns ∙ ap (λ t. slice_set old.turns.items way (suc t)) is.turn)) (turns_more mesh.links mesh.frames old.turns.items f way refl amid.stands.turns);
    ways = subst (WaysAre mesh.nodes mesh.links) (sym c.ways) amid.stands.ways;
    lans = c.lans ∙ amid.stands.lans;
    puts = subst (PutsAre sendings mesh.puts) (sym c.puts) amid.stands.puts;
    frames = subst (FramesAre sendings (mesh.frames ++ f ∷ [])) (sym c.frames) (frames_more sendings mesh.frames old.frames f (record { link = way; sending = parcel }) amid.stands.frames (record {
      link = refl;
      sending = sending.sending;
      found = sending.found;
      bytes = sending.bytes_are;
      root = sending.root_is;
    }));
    bytes = let b = c.bytes in let s = amid.stands.bytes in let m = bytes_more mesh.frames f in omega (arith, b, s, m);
    few = let few = room.few in let m = length_more mesh.frames f in omega (arith, few, m);
    small = let small = room.small in let m = bytes_more mesh.frames f in omega (arith, small, m);
  };
  waits = awaits_more old.queue new.queue last ticks mesh.links mesh.frames mesh.puts f after amid.waits gained;
}
  where
    f : SentFrame
    f = next_frame (actor_of sender) bytes way mesh

    arrives : arrivals mesh.links f ≡ arrivals_by (fate_of_mark lane.mark) sender.now lane.delay
    arrives = arrivals_are mesh way link lane f is refl refl found

    gained : Gained old.queue new.queue (map (delivery_at (length mesh.frames)) (arrivals mesh.links f))
    gained = subst (λ ms. Gained old.queue new.queue (map (delivery_at (length mesh.frames)) ms)) (sym arrives)
        (subst (λ n. Gained old.queue new.queue (map (delivery_at n) (arrivals_by (fate_of_mark lane.mark) sender.now lane.delay))) (frames_length sendings mesh.frames old.frames amid.stands.frames) c.queue)

    least : 1 ≤ lane.delay
    least = subst (λ d. 1 ≤ d) (sym is.delay) is.least

    after : (x : Happening) → Has (map (delivery_at (length mesh.frames)) (arrivals mesh.links f)) x → Before last x
    after = all_after last (length mesh.frames) (arrivals mesh.links f) (λ m h.
        let l = later_of (fate_of_mark lane.mark) sender.now lane.delay m least (subst (λ ms. Has ms m) arrives h) in
        omega (arith, l, late))
