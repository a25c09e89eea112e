-- What is spelled of a packet is read again: its word, its addresses and its containers.
use Rattle.std.proofs.Common.{◌≡◌, ℕ, ◌+◌, ◌*◌, ◌/◌, ◌%◌, ◌<◌, ◌≤◌, List, [], ◌∷◌, length, take, drop, refl, sym, ap, ap₂, subst, ◌∙◌, arith, false, cond, nat_lt, Option, Some, None, Result, Ok, Err}
use Rattle.std.proofs.lemmas.List.{drop_all, take_all}
use Rattle.mesh_base.specs.declared.address.Mac.{Mac}
use Rattle.mesh_model.specs.declared.link_frame.NoPacket.{NoPacket}
use Rattle.mesh_model.specs.declared.link_frame.NoPacket.TheVariants.{Short, Length}
use Rattle.mesh_model.specs.declared.link_frame.Ending.TheVariants.{Rest}
use Rattle.mesh_model.specs.declared.link_frame.TvlvErr.{TvlvErr}
use Rattle.mesh_model.specs.Packets.LinkFrame.{LinkFrame, behind, frame_from, is_followed, link_frame, only_ending, packet_flaw}
use Rattle.mesh_model.specs.Packets.Shapes.{shape_of}
use Rattle.mesh_laws.proofs.FrameLemmas.{link_frame-first}
use Rattle.mesh_model.specs.declared.packet.Head.{Head}
use Rattle.mesh_model.specs.declared.packet.Head.TheVariants.{IvOgm, Bcast, Ogm2, Unicast, Frag, Utvlv}
use Rattle.mesh_model.specs.Packets.FirstPacket.{Front, Packet, first_packet, packet_cut}
use Rattle.mesh_model.specs.Packets.Layout.{spelling}
use Rattle.mesh_laws.proofs.FirstPacketLemmas.{ltb-from_le}
use Rattle.mesh_tie.specs.Sources.{ContainersOf, HasWholeAddresses, IsWhole, word_of}

-- an address of six bytes, byte by byte
pub record Six (mac : Mac) : Type 0 where
  pub a : ℕ
  pub b : ℕ
  pub c : ℕ
  pub d : ℕ
  pub e : ℕ
  pub f : ℕ
  pub is : mac ≡ record { 0 = a ∷ b ∷ c ∷ d ∷ e ∷ f ∷ [] }

six_of : (bytes : List ℕ) → length bytes ≡ 6 → Six (record { 0 = bytes })
six_of [] h = absurd (omega (arith, h))
six_of (a ∷ []) h = absurd (omega (arith, h))
six_of (a ∷ b ∷ []) h = absurd (omega (arith, h))
six_of (a ∷ b ∷ c ∷ []) h = absurd (omega (arith, h))
six_of (a ∷ b ∷ c ∷ d ∷ []) h = absurd (omega (arith, h))
six_of (a ∷ b ∷ c ∷ d ∷ e ∷ []) h = absurd (omega (arith, h))
six_of (a ∷ b ∷ c ∷ d ∷ e ∷ f ∷ []) h = record { a = a; b = b; c = c; d = d; e = e; f = f; is = refl }
six_of (a ∷ b ∷ c ∷ d ∷ e ∷ f ∷ g ∷ more) h = absurd (omega (arith, h))

pub six : (mac : Mac) → IsWhole mac → Six mac
six mac h = six_of mac.0 h

abbrev pub mac6 : ℕ → ℕ → ℕ → ℕ → ℕ → ℕ → Mac
mac6 a b c d e f = record { 0 = a ∷ b ∷ c ∷ d ∷ e ∷ f ∷ [] }

-- a number in one byte, in two and in four, as it is read again
abbrev pub one_read : ℕ → ℕ
one_read n = (n % 256) * 1 + 0

abbrev two_read : ℕ → ℕ
two_read n = (n / 256 % 256) * 256 + (n % 256 * 1 + 0)

abbrev pub four_read : ℕ → ℕ
four_read n = (n / 16777216 % 256) * 16777216 + ((n / 65536 % 256) * 65536 + ((n / 256 % 256) * 256 + (n % 256 * 1 + 0)))

-- a test of the length that isn't met
long_enough : (have need : ℕ) (short : Result Front NoPacket) (found : Result Front NoPacket) → need ≤ have → cond (nat_lt have need) short found ≡ found
long_enough have need short found more = ap (λ b. cond b short found) (ltb-from_le have need more)

iv_computes : (ttl flags seq tq a b c d e f g h i j k l : ℕ) (tail : List ℕ)
    → first_packet (spelling (IvOgm ttl flags seq (mac6 a b c d e f) (mac6 g h i j k l) tq) tail) ≡ packet_cut (IvOgm (one_read ttl) (one_read flags) (four_read seq) (mac6 a b c d e f) (mac6 g h i j k l) (one_read tq)) (two_read (length tail)) tail
unfolding first_packet
iv_computes ttl flags seq tq a b c d e f g h i j k l tail =
    let bytes = spelling (IvOgm ttl flags seq (mac6 a b c d e f) (mac6 g h i j k l) tq) tail in
    long_enough (length bytes) 24 (Err (Short (length bytes) 24)) (packet_cut (IvOgm (one_read ttl) (one_read flags) (four_read seq) (mac6 a b c d e f) (mac6 g h i j k l) (one_read tq)) (two_read (length tail)) tail) (omega arith)

ogm2_computes : (ttl flags seq throughput a b c d e f : ℕ) (tail : List ℕ)
    → first_packet (spelling (Ogm2 ttl flags seq (mac6 a b c d e f) throughput) tail) ≡ packet_cut (Ogm2 (one_read ttl) (one_read flags) (four_read seq) (mac6 a b c d e f) (four_read throughput)) (two_read (length tail)) tail
unfolding first_packet
ogm2_computes ttl flags seq throughput a b c d e f tail =
    let bytes = spelling (Ogm2 ttl flags seq (mac6 a b c d e f) throughput) tail in
    long_enough (length bytes) 20 (Err (Short (length bytes) 20)) (packet_cut (Ogm2 (one_read ttl) (one_read flags) (four_read seq) (mac6 a b c d e f) (four_read throughput)) (two_read (length tail)) tail) (omega arith)

utvlv_computes : (ttl a b c d e f g h i j k l : ℕ) (tail : List ℕ)
    → first_packet (spelling (Utvlv ttl (mac6 a b c d e f) (mac6 g h i j k l)) tail) ≡ packet_cut (Utvlv (one_read ttl) (mac6 a b c d e f) (mac6 g h i j k l)) (two_read (length tail)) tail
unfolding first_packet
utvlv_computes ttl a b c d e f g h i j k l tail =
    let bytes = spelling (Utvlv ttl (mac6 a b c d e f) (mac6 g h i j k l)) tail in
    long_enough (length bytes) 20 (Err (Short (length bytes) 20)) (packet_cut (Utvlv (one_read ttl) (mac6 a b c d e f) (mac6 g h i j k l)) (two_read (length tail)) tail) (omega arith)

-- ---- the packets of a frame
-- what the head of a packet is read as, and of its tail as many bytes as are told
record IsReadAs (head : Head) (told : ℕ) (tail : List ℕ) : Type 0 where
  sent : Head
  word : word_of sent ≡ word_of head
  addresses : HasWholeAddresses sent
  first : first_packet (spelling head tail) ≡ packet_cut sent told tail
  alone : is_followed (shape_of sent) [] ≡ false

iv_read : (ttl flags seq tq : ℕ) (orig prev : Mac) (tail : List ℕ) → Six orig → Six prev → IsReadAs (IvOgm ttl flags seq orig prev tq) (two_read (length tail)) tail
iv_read ttl flags seq tq orig prev tail o p = subst (λ x. IsReadAs (IvOgm ttl flags seq x prev tq) (two_read (length tail)) tail) (sym o.is)
    (subst (λ y. IsReadAs (IvOgm ttl flags seq (mac6 o.a o.b o.c o.d o.e o.f) y tq) (two_read (length tail)) tail) (sym p.is) (record {
      sent = IvOgm (one_read ttl) (one_read flags) (four_read seq) (mac6 o.a o.b o.c o.d o.e o.f) (mac6 p.a p.b p.c p.d p.e p.f) (one_read tq);
      word = refl;
      addresses = (refl, refl);
      first = iv_computes ttl flags seq tq o.a o.b o.c o.d o.e o.f p.a p.b p.c p.d p.e p.f tail;
      alone = refl;
    }))

ogm2_read : (ttl flags seq throughput : ℕ) (orig : Mac) (tail : List ℕ) → Six orig → IsReadAs (Ogm2 ttl flags seq orig throughput) (two_read (length tail)) tail
ogm2_read ttl flags seq throughput orig tail o = subst (λ x. IsReadAs (Ogm2 ttl flags seq x throughput) (two_read (length tail)) tail) (sym o.is) (record {
  sent = Ogm2 (one_read ttl) (one_read flags) (four_read seq) (mac6 o.a o.b o.c o.d o.e o.f) (four_read throughput);
  word = refl;
  addresses = refl;
  first = ogm2_computes ttl flags seq throughput o.a o.b o.c o.d o.e o.f tail;
  alone = refl;
})

utvlv_read : (ttl : ℕ) (dst src : Mac) (tail : List ℕ) → Six dst → Six src → IsReadAs (Utvlv ttl dst src) (two_read (length tail)) tail
utvlv_read ttl dst src tail o p = subst (λ x. IsReadAs (Utvlv ttl x src) (two_read (length tail)) tail) (sym o.is)
    (subst (λ y. IsReadAs (Utvlv ttl (mac6 o.a o.b o.c o.d o.e o.f) y) (two_read (length tail)) tail) (sym p.is) (record {
      sent = Utvlv (one_read ttl) (mac6 o.a o.b o.c o.d o.e o.f) (mac6 p.a p.b p.c p.d p.e p.f);
      word = refl;
      addresses = (refl, refl);
      first = utvlv_computes ttl o.a o.b o.c o.d o.e o.f p.a p.b p.c p.d p.e p.f tail;
      alone = refl;
    }))

-- ---- the frame behind its first packet
told_whole : (n : ℕ) → n < 65536 → two_read n ≡ n
told_whole n small = omega (arith, small)

told_less : (n : ℕ) → two_read n ≤ n
told_less n = omega arith

-- as many bytes of the tail as are told are there
cut_there : (head : Head) (told : ℕ) (tail : List ℕ) → told ≤ length tail → packet_cut head told tail ≡ Ok (record { packet = record { head = head; tail = take told tail }; rest = drop told tail })
cut_there head told tail there = long_enough (length tail) told (Err (Length told (length tail))) (Ok (record { packet = record { head = head; tail = take told tail }; rest = drop told tail })) there

nothing_behind : (further : List ℕ → LinkFrame) (front : Front) (flaw : Option TvlvErr) → is_followed (shape_of front.packet.head) front.rest ≡ false → (behind further front flaw).packets ≡ []
nothing_behind further front (Some flaw) none = refl
nothing_behind further front None none = ap (λ b. (cond b (further front.rest) (only_ending (Rest (length front.rest)))).packets) none

one_packet : (bytes : List ℕ) (front : Front) → first_packet bytes ≡ Ok front → is_followed (shape_of front.packet.head) front.rest ≡ false → (link_frame bytes).packets ≡ front.packet ∷ []
one_packet bytes front first none = ap (λ (f : LinkFrame). f.packets) (link_frame-first bytes) ∙ ap (λ r. (frame_from link_frame r).packets) first
    ∙ ap (λ ps. front.packet ∷ ps) (nothing_behind link_frame front (packet_flaw front.packet) none)

-- ---- what is spelled is read
-- a frame of one packet
pub record IsOnePacket (bytes : List ℕ) (head : Head) (tail : List ℕ) : Type 0 where
  pub sent : Head
  pub word : word_of sent ≡ word_of head
  pub addresses : HasWholeAddresses sent
  pub packets : (link_frame bytes).packets ≡ record { head = sent; tail = tail } ∷ []

small_one : (head : Head) (tail : List ℕ) → length tail < 65536 → IsReadAs head (two_read (length tail)) tail → IsOnePacket (spelling head tail) head tail
small_one head tail small r =
    let told : two_read (length tail) ≡ length tail = told_whole (length tail) small in
    let all : take (two_read (length tail)) tail ≡ tail = ap (λ n. take n tail) told ∙ take_all (length tail) tail (omega arith) in
    let none : drop (two_read (length tail)) tail ≡ [] = ap (λ n. drop n tail) told ∙ drop_all (length tail) tail (omega arith) in
    let first : first_packet (spelling head tail) ≡ Ok (record { packet = record { head = r.sent; tail = tail }; rest = [] }) =
    r.first ∙ cut_there r.sent (two_read (length tail)) tail (told_less (length tail))
    ∙ ap₂ (λ (t rest : List ℕ). Ok (record { packet = record { head = r.sent; tail = t }; rest = rest })) all none in
    record {
      sent = r.sent;
      word = r.word;
      addresses = r.addresses;
      packets = one_packet (spelling head tail) (record { packet = record { head = r.sent; tail = tail }; rest = [] }) first r.alone;
    }

pub iv_frame : (ttl flags seq tq : ℕ) (orig prev : Mac) (tail : List ℕ) → IsWhole orig → IsWhole prev → length tail < 65536 → IsOnePacket (spelling (IvOgm ttl flags seq orig prev tq) tail) (IvOgm ttl flags seq orig prev tq) tail
iv_frame ttl flags seq tq orig prev tail o p small = small_one (IvOgm ttl flags seq orig prev tq) tail small (iv_read ttl flags seq tq orig prev tail (six orig o) (six prev p))

pub ogm2_frame : (ttl flags seq throughput : ℕ) (orig : Mac) (tail : List ℕ) → IsWhole orig → length tail < 65536 → IsOnePacket (spelling (Ogm2 ttl flags seq orig throughput) tail) (Ogm2 ttl flags seq orig throughput) tail
ogm2_frame ttl flags seq throughput orig tail o small = small_one (Ogm2 ttl flags seq orig throughput) tail small (ogm2_read ttl flags seq throughput orig tail (six orig o))

-- containers that may be too long: they are read up to where they are told, or as they were sent
pub record IsOneOrCut (bytes : List ℕ) (src : Mac) (tail : List ℕ) : Type 0 where
  pub packet : Packet
  pub word : word_of packet.head ≡ ContainersOf src
  pub addresses : HasWholeAddresses packet.head
  pub packets : (link_frame bytes).packets ≡ packet ∷ []
  pub whole : length tail < 65536 → packet.tail ≡ tail

utvlv_cut : (ttl : ℕ) (dst src : Mac) (tail : List ℕ) → Six dst → Six src → IsOneOrCut (spelling (Utvlv ttl dst src) tail) src tail
utvlv_cut ttl dst src tail o p =
    subst (λ x. IsOneOrCut (spelling (Utvlv ttl x src) tail) src tail) (sym o.is)
    (subst (λ y. IsOneOrCut (spelling (Utvlv ttl (mac6 o.a o.b o.c o.d o.e o.f) y) tail) y tail) (sym p.is) cut)
  where
    told : ℕ
    told = two_read (length tail)

    head : Head
    head = Utvlv (one_read ttl) (mac6 o.a o.b o.c o.d o.e o.f) (mac6 p.a p.b p.c p.d p.e p.f)

    cut : IsOneOrCut (spelling (Utvlv ttl (mac6 o.a o.b o.c o.d o.e o.f) (mac6 p.a p.b p.c p.d p.e p.f)) tail) (mac6 p.a p.b p.c p.d p.e p.f) tail
    cut = record {
      packet = record { head = head; tail = take told tail };
      word = refl;
      addresses = (refl, refl);
      packets = one_packet (spelling (Utvlv ttl (mac6 o.a o.b o.c o.d o.e o.f) (mac6 p.a p.b p.c p.d p.e p.f)) tail) (record { packet = record { head = head; tail = take told tail }; rest = drop told tail })
          (utvlv_computes ttl o.a o.b o.c o.d o.e o.f p.a p.b p.c p.d p.e p.f tail ∙ cut_there head told tail (told_less (length tail))) refl;
      whole = λ small. ap (λ n. take n tail) (told_whole (length tail) small) ∙ take_all (length tail) tail (omega arith);
    }

pub utvlv_frame : (ttl : ℕ) (dst src : Mac) (tail : List ℕ) → IsWhole dst → IsWhole src → IsOneOrCut (spelling (Utvlv ttl dst src) tail) src tail
utvlv_frame ttl dst src tail d s = utvlv_cut ttl dst src tail (six dst d) (six src s)

-- ---- packets whose tail is all the rest
rest_read : (head sent : Head) (tail : List ℕ) → first_packet (spelling head tail) ≡ packet_cut sent (length tail) tail → is_followed (shape_of sent) [] ≡ false
    → (link_frame (spelling head tail)).packets ≡ record { head = sent; tail = tail } ∷ []
rest_read head sent tail first alone =
    let all : take (length tail) tail ≡ tail = take_all (length tail) tail (omega arith) in
    let none : drop (length tail) tail ≡ [] = drop_all (length tail) tail (omega arith) in
    one_packet (spelling head tail) (record { packet = record { head = sent; tail = tail }; rest = [] })
    (first ∙ cut_there sent (length tail) tail (omega arith) ∙ ap₂ (λ (t rest : List ℕ). Ok (record { packet = record { head = sent; tail = t }; rest = rest })) all none) alone

bcast_computes : (ttl seq a b c d e f : ℕ) (tail : List ℕ) → first_packet (spelling (Bcast ttl seq (mac6 a b c d e f)) tail) ≡ packet_cut (Bcast (one_read ttl) (four_read seq) (mac6 a b c d e f)) (length tail) tail
unfolding first_packet
bcast_computes ttl seq a b c d e f tail =
    let bytes = spelling (Bcast ttl seq (mac6 a b c d e f)) tail in
    long_enough (length bytes) 14 (Err (Short (length bytes) 14)) (packet_cut (Bcast (one_read ttl) (four_read seq) (mac6 a b c d e f)) (length tail) tail) (omega arith)

unicast_computes : (ttl ttvn a b c d e f : ℕ) (tail : List ℕ) → first_packet (spelling (Unicast ttl ttvn (mac6 a b c d e f)) tail) ≡ packet_cut (Unicast (one_read ttl) (one_read ttvn) (mac6 a b c d e f)) (length tail) tail
unfolding first_packet
unicast_computes ttl ttvn a b c d e f tail =
    let bytes = spelling (Unicast ttl ttvn (mac6 a b c d e f)) tail in
    long_enough (length bytes) 10 (Err (Short (length bytes) 10)) (packet_cut (Unicast (one_read ttl) (one_read ttvn) (mac6 a b c d e f)) (length tail) tail) (omega arith)

-- the byte of a fragment's place and priority
abbrev pub fragment_read : ℕ → ℕ → ℕ
fragment_read place priority = (16 * place + 2 * priority) * 1 + 0

frag_computes : (ttl place priority a b c d e f g h i j k l seq total : ℕ) (tail : List ℕ)
    → first_packet (spelling (Frag ttl place priority (mac6 a b c d e f) (mac6 g h i j k l) seq total) tail)
    ≡ packet_cut (Frag (one_read ttl) (fragment_read place priority / 16) (fragment_read place priority / 2 % 8) (mac6 a b c d e f) (mac6 g h i j k l) (two_read seq) (two_read total)) (length tail) tail
unfolding first_packet
frag_computes ttl place priority a b c d e f g h i j k l seq total tail =
    let bytes = spelling (Frag ttl place priority (mac6 a b c d e f) (mac6 g h i j k l) seq total) tail in
    long_enough (length bytes) 20 (Err (Short (length bytes) 20))
    (packet_cut (Frag (one_read ttl) (fragment_read place priority / 16) (fragment_read place priority / 2 % 8) (mac6 a b c d e f) (mac6 g h i j k l) (two_read seq) (two_read total)) (length tail) tail) (omega arith)

frag_spelled : (ttl place priority : ℕ) (dst orig : Mac) (seq total : ℕ) (tail : List ℕ) → IsWhole dst → IsWhole orig
    → (link_frame (spelling (Frag ttl place priority dst orig seq total) tail)).packets
    ≡ record { head = Frag (one_read ttl) (fragment_read place priority / 16) (fragment_read place priority / 2 % 8) dst orig (two_read seq) (two_read total); tail = tail } ∷ []
frag_spelled ttl place priority dst orig seq total tail whole also =
    let d = six dst whole in
    let o = six orig also in
    subst (λ x. (link_frame (spelling (Frag ttl place priority x orig seq total) tail)).packets
    ≡ record { head = Frag (one_read ttl) (fragment_read place priority / 16) (fragment_read place priority / 2 % 8) x orig (two_read seq) (two_read total); tail = tail } ∷ []) (sym d.is)
    (subst (λ y. (link_frame (spelling (Frag ttl place priority (mac6 d.a d.b d.c d.d d.e d.f) y seq total) tail)).packets
    ≡ record { head = Frag (one_read ttl) (fragment_read place priority / 16) (fragment_read place priority / 2 % 8) (mac6 d.a d.b d.c d.d d.e d.f) y (two_read seq) (two_read total); tail = tail } ∷ []) (sym o.is)
    (rest_read (Frag ttl place priority (mac6 d.a d.b d.c d.d d.e d.f) (mac6 o.a o.b o.c o.d o.e o.f) seq total)
    (Frag (one_read ttl) (fragment_read place priority / 16) (fragment_read place priority / 2 % 8) (mac6 d.a d.b d.c d.d d.e d.f) (mac6 o.a o.b o.c o.d o.e o.f) (two_read seq) (two_read total)) tail
    (frag_computes ttl place priority d.a d.b d.c d.d d.e d.f o.a o.b o.c o.d o.e o.f seq total tail) refl))

-- a fragment whose fields fit is read as it was spelled, with its tail
pub frag_read : (ttl place priority : ℕ) (dst orig : Mac) (seq total : ℕ) (tail : List ℕ) → IsWhole dst → IsWhole orig → place ≤ 15 → priority ≤ 7 → seq < 65536 → total < 65536
    → (link_frame (spelling (Frag ttl place priority dst orig seq total) tail)).packets ≡ record { head = Frag (one_read ttl) place (fragment_read place priority / 2 % 8) dst orig seq total; tail = tail } ∷ []
frag_read ttl place priority dst orig seq total tail whole also few low small short =
    let same : fragment_read place priority / 16 ≡ place = omega (arith, few, low) in
    frag_spelled ttl place priority dst orig seq total tail whole also
    ∙ ap (λ (n : ℕ). record { head = Frag (one_read ttl) n (fragment_read place priority / 2 % 8) dst orig (two_read seq) (two_read total); tail = tail } ∷ []) same
    ∙ ap₂ (λ (s t : ℕ). record { head = Frag (one_read ttl) place (fragment_read place priority / 2 % 8) dst orig s t; tail = tail } ∷ []) (told_whole seq small) (told_whole total short)

-- a broadcast and a packet for one node are read with their tails
pub bcast_read : (ttl seq : ℕ) (orig : Mac) (tail : List ℕ) → IsWhole orig → (link_frame (spelling (Bcast ttl seq orig) tail)).packets ≡ record { head = Bcast (one_read ttl) (four_read seq) orig; tail = tail } ∷ []
bcast_read ttl seq orig tail whole =
    let o = six orig whole in
    subst (λ x. (link_frame (spelling (Bcast ttl seq x) tail)).packets ≡ record { head = Bcast (one_read ttl) (four_read seq) x; tail = tail } ∷ []) (sym o.is)
    (rest_read (Bcast ttl seq (mac6 o.a o.b o.c o.d o.e o.f)) (Bcast (one_read ttl) (four_read seq) (mac6 o.a o.b o.c o.d o.e o.f)) tail (bcast_computes ttl seq o.a o.b o.c o.d o.e o.f tail) refl)

pub unicast_read : (ttl ttvn : ℕ) (dst : Mac) (tail : List ℕ) → IsWhole dst → (link_frame (spelling (Unicast ttl ttvn dst) tail)).packets ≡ record { head = Unicast (one_read ttl) (one_read ttvn) dst; tail = tail } ∷ []
unicast_read ttl ttvn dst tail whole =
    let o = six dst whole in
    subst (λ x. (link_frame (spelling (Unicast ttl ttvn x) tail)).packets ≡ record { head = Unicast (one_read ttl) (one_read ttvn) x; tail = tail } ∷ []) (sym o.is)
    (rest_read (Unicast ttl ttvn (mac6 o.a o.b o.c o.d o.e o.f)) (Unicast (one_read ttl) (one_read ttvn) (mac6 o.a o.b o.c o.d o.e o.f)) tail (unicast_computes ttl ttvn o.a o.b o.c o.d o.e o.f tail) refl)
