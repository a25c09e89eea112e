-- The lines of packets and containers: each ends at its only newline, and tells its kind.
use Rattle.std.proofs.Common.{ℕ, Bool, true, false, cond, List, [], ◌∷◌, ◌++◌, length, map, Option, Some, None, refl}
use Rattle.std.specs.Prelude.{codes, flat_map, nat_eq}
use Rattle.mesh_base.specs.declared.client.Key.{Key}
use Rattle.mesh_model.specs.declared.link_frame.Ending.{Ending}
use Rattle.mesh_model.specs.declared.link_frame.Ending.TheVariants.{Rest, BadPacket, BadContainer}
use Rattle.mesh_model.specs.declared.link_frame.NoPacket.{NoPacket}
use Rattle.mesh_model.specs.declared.link_frame.NoPacket.TheVariants.{Short, Version, Kind, Length}
use Rattle.mesh_model.specs.declared.link_frame.TvlvErr.{TvlvErr}
use Rattle.mesh_model.specs.declared.link_frame.TvlvErr.TheVariants.{Cut, BadLength}
use Rattle.mesh_model.specs.declared.packet.Head.{Head}
use Rattle.mesh_model.specs.declared.packet.Head.TheVariants.{IvOgm, Bcast, Elp, Ogm2, Unicast, Frag, Unicast4, Icmp, Utvlv}
use Rattle.mesh_model.specs.Packets.Bodies.{Bandwidth, TtChange, TtData, TtPart}
use Rattle.mesh_model.specs.Packets.Containers.{Container}
use Rattle.mesh_model.specs.Packets.Contents.{Content, content_of, sound_containers}
use Rattle.mesh_model.specs.Packets.Contents.Content.{gateway, translation, part, roaming, multicast, unread}
use Rattle.mesh_model.specs.Packets.FirstPacket.{Packet}
use Rattle.mesh_model.specs.Packets.LinkFrame.{LinkFrame, link_frame}
use Rattle.mesh_model.specs.Packets.Shapes.{TailKind, shape_of, iv_ogm, bcast, elp, ogm2, unicast, frag, unicast4, icmp, utvlv}
use Rattle.mesh_model.specs.Packets.Shapes.TailKind.{containers, all_the_rest, nothing}
use Rattle.mesh_model.specs.Text.ContainerLines.{change_line, container_line, container_lines, container_start, content_lines, gateway_line, multicast_line, part_start, plain_line, roaming_line, rows_of_table, table_start}
use Rattle.mesh_model.specs.Text.Decode.{bad_container_line, bad_packet_line, decode_lines, ending_lines, frame_lines, packet_lines, rest_line, tail_lines}
use Rattle.mesh_model.specs.Text.PacketLines.{named_address, named_flags, named_number, packet_line}
use Rattle.mesh_model.specs.Text.Tables.{vid_text, vlan_line}
use Rattle.mesh_laws.specs.Cuts.{IsUnbroken}
use Rattle.mesh_lines.specs.LineWords.{of_other}
use Rattle.mesh_lines.proofs.LineParts.{AllUnbroken, Told, byte_flags, mac, number, said, told, unbroken_both, unbroken_word, vid_word, vlan_told}

-- each line is of another kind than those that the laws speak of
abbrev pub AllOther : List (List ℕ) → Type 0
AllOther [] = Unit {0}
AllOther (line ∷ lines) = Told of_other line × AllOther lines

pub other_both : (xs ys : List (List ℕ)) → AllOther xs → AllOther ys → AllOther (xs ++ ys)
other_both [] ys p q = q
other_both (x ∷ xs) ys p q = (p.0, other_both xs ys p.1 q)

pub other_map : {X : Type 0} (f : X → List ℕ) → ((x : X) → Told of_other (f x)) → (xs : List X) → AllOther (map f xs)
other_map f all [] = tt
other_map f all (x ∷ xs) = (all x, other_map f all xs)

pub other_flat : {X : Type 0} (f : X → List (List ℕ)) → ((x : X) → AllOther (f x)) → (xs : List X) → AllOther (flat_map f xs)
other_flat f all [] = tt
other_flat f all (x ∷ xs) = other_both (f x) (flat_map f xs) (all x) (other_flat f all xs)

-- ---- packets
pub packet_told : (head : Head) (len : ℕ) → Told of_other (packet_line head len)
unfolding packet_line
packet_told (IvOgm ttl flags seq orig prev tq) len = told of_other (codes "packet " ∷ iv_ogm.word ∷ named_number (codes " ttl=") ttl ∷ named_flags (codes " flags=") flags ∷ named_number (codes " seq=") seq ∷ named_address (codes " orig=") orig ∷ named_address (codes " prev=") prev ∷ named_number (codes " tq=") tq ∷ named_number (codes " tvlv=") len ∷ []) (said (codes "packet ") refl, (said iv_ogm.word refl, (number (codes " ttl=") ttl refl, (byte_flags (codes " flags=") flags refl, (number (codes " seq=") seq refl, (mac (codes " orig=") orig refl, (mac (codes " prev=") prev refl, (number (codes " tq=") tq refl, (number (codes " tvlv=") len refl, tt))))))))) refl
packet_told (Bcast ttl seq orig) len = told of_other (codes "packet " ∷ bcast.word ∷ named_number (codes " ttl=") ttl ∷ named_number (codes " seq=") seq ∷ named_address (codes " orig=") orig ∷ named_number (codes " data=") len ∷ []) (said (codes "packet ") refl, (said bcast.word refl, (number (codes " ttl=") ttl refl, (number (codes " seq=") seq refl, (mac (codes " orig=") orig refl, (number (codes " data=") len refl, tt)))))) refl
packet_told (Elp orig seq interval) len = told of_other (codes "packet " ∷ elp.word ∷ named_address (codes " orig=") orig ∷ named_number (codes " seq=") seq ∷ named_number (codes " interval=") interval ∷ []) (said (codes "packet ") refl, (said elp.word refl, (mac (codes " orig=") orig refl, (number (codes " seq=") seq refl, (number (codes " interval=") interval refl, tt))))) refl
packet_told (Ogm2 ttl flags seq orig throughput) len = told of_other (codes "packet " ∷ ogm2.word ∷ named_number (codes " ttl=") ttl ∷ named_flags (codes " flags=") flags ∷ named_number (codes " seq=") seq ∷ named_address (codes " orig=") orig ∷ named_number (codes " tvlv=") len ∷ named_number (codes " tp=") throughput ∷ []) (said (codes "packet ") refl, (said ogm2.word refl, (number (codes " ttl=") ttl refl, (byte_flags (codes " flags=") flags refl, (number (codes " seq=") seq refl, (mac (codes " orig=") orig refl, (number (codes " tvlv=") len refl, (number (codes " tp=") throughput refl, tt)))))))) refl
packet_told (Unicast ttl ttvn dst) len = told of_other (codes "packet " ∷ unicast.word ∷ named_number (codes " ttl=") ttl ∷ named_number (codes " ttvn=") ttvn ∷ named_address (codes " dst=") dst ∷ named_number (codes " data=") len ∷ []) (said (codes "packet ") refl, (said unicast.word refl, (number (codes " ttl=") ttl refl, (number (codes " ttvn=") ttvn refl, (mac (codes " dst=") dst refl, (number (codes " data=") len refl, tt)))))) refl
packet_told (Frag ttl index priority dst orig seq total) len = told of_other (codes "packet " ∷ frag.word ∷ named_number (codes " ttl=") ttl ∷ named_number (codes " no=") index ∷ named_number (codes " prio=") priority ∷ named_address (codes " dst=") dst ∷ named_address (codes " orig=") orig ∷ named_number (codes " seq=") seq ∷ named_number (codes " total=") total ∷ named_number (codes " data=") len ∷ []) (said (codes "packet ") refl, (said frag.word refl, (number (codes " ttl=") ttl refl, (number (codes " no=") index refl, (number (codes " prio=") priority refl, (mac (codes " dst=") dst refl, (mac (codes " orig=") orig refl, (number (codes " seq=") seq refl, (number (codes " total=") total refl, (number (codes " data=") len refl, tt)))))))))) refl
packet_told (Unicast4 ttl ttvn dst src subtype) len = told of_other (codes "packet " ∷ unicast4.word ∷ named_number (codes " ttl=") ttl ∷ named_number (codes " ttvn=") ttvn ∷ named_address (codes " dst=") dst ∷ named_address (codes " src=") src ∷ named_number (codes " sub=") subtype ∷ named_number (codes " data=") len ∷ []) (said (codes "packet ") refl, (said unicast4.word refl, (number (codes " ttl=") ttl refl, (number (codes " ttvn=") ttvn refl, (mac (codes " dst=") dst refl, (mac (codes " src=") src refl, (number (codes " sub=") subtype refl, (number (codes " data=") len refl, tt)))))))) refl
packet_told (Icmp ttl msg dst orig uid seq) len = told of_other (codes "packet " ∷ icmp.word ∷ named_number (codes " ttl=") ttl ∷ named_number (codes " msg=") msg ∷ named_address (codes " dst=") dst ∷ named_address (codes " orig=") orig ∷ named_number (codes " uid=") uid ∷ named_number (codes " seq=") seq ∷ []) (said (codes "packet ") refl, (said icmp.word refl, (number (codes " ttl=") ttl refl, (number (codes " msg=") msg refl, (mac (codes " dst=") dst refl, (mac (codes " orig=") orig refl, (number (codes " uid=") uid refl, (number (codes " seq=") seq refl, tt)))))))) refl
packet_told (Utvlv ttl dst src) len = told of_other (codes "packet " ∷ utvlv.word ∷ named_number (codes " ttl=") ttl ∷ named_address (codes " dst=") dst ∷ named_address (codes " src=") src ∷ named_number (codes " tvlv=") len ∷ []) (said (codes "packet ") refl, (said utvlv.word refl, (number (codes " ttl=") ttl refl, (mac (codes " dst=") dst refl, (mac (codes " src=") src refl, (number (codes " tvlv=") len refl, tt)))))) refl

-- ---- containers
start_plain : (c : Container) → IsUnbroken (container_start c)
start_plain c = unbroken_both (named_number (codes "tvlv ") c.kind ++ named_number (codes " version=") c.version) (named_number (codes " len=") (length c.body))
    (unbroken_both (named_number (codes "tvlv ") c.kind) (named_number (codes " version=") c.version) (number (codes "tvlv ") c.kind refl) (number (codes " version=") c.version refl)) (number (codes " len=") (length c.body) refl)

container_told : (c : Container) (parts : List (List ℕ)) → AllUnbroken parts → Told of_other (container_line c parts)
container_told c parts all = told of_other (container_start c ∷ parts) (start_plain c, all) refl

plain_told : (c : Container) → Told of_other (plain_line c)
unfolding plain_line
plain_told c = container_told c [] tt

gateway_told : (c : Container) (b : Bandwidth) → Told of_other (gateway_line c b)
unfolding gateway_line
gateway_told c b = container_told c (named_number (codes " down=") b.download ∷ named_number (codes " up=") b.upload ∷ []) (number (codes " down=") b.download refl, (number (codes " up=") b.upload refl, tt))

roaming_told : (c : Container) (key : Key) → Told of_other (roaming_line c key)
unfolding roaming_line
roaming_told c key = container_told c (named_address (codes " mac=") key.mac ∷ codes " vid=" ∷ vid_text key.vid ∷ [])
    (mac (codes " mac=") key.mac refl, (said (codes " vid=") refl, (unbroken_word (vid_text key.vid) (vid_word key.vid), tt)))

multicast_told : (c : Container) (flags : ℕ) → Told of_other (multicast_line c flags)
unfolding multicast_line
multicast_told c flags = container_told c (named_flags (codes " flags=") flags ∷ []) (byte_flags (codes " flags=") flags refl, tt)

table_told : (c : Container) (table : TtData) → Told of_other (table_start c table)
unfolding table_start
table_told c table = container_told c
    (named_flags (codes " flags=") table.flags ∷ named_number (codes " ttvn=") table.ttvn ∷ named_number (codes " vlans=") (length table.vlans) ∷ named_number (codes " changes=") (length table.changes) ∷ [])
    (byte_flags (codes " flags=") table.flags refl, (number (codes " ttvn=") table.ttvn refl, (number (codes " vlans=") (length table.vlans) refl, (number (codes " changes=") (length table.changes) refl, tt))))

part_told : (c : Container) (one : TtPart) → Told of_other (part_start c one)
unfolding part_start
part_told c one = container_told c
    (named_flags (codes " flags=") one.table.flags ∷ named_number (codes " ttvn=") one.table.ttvn ∷ named_number (codes " vlans=") (length one.table.vlans) ∷ named_number (codes " part=") one.number ∷ named_number (codes " of=") one.count
    ∷ named_number (codes " changes=") (length one.table.changes) ∷ []) (
      byte_flags (codes " flags=") one.table.flags refl,
      (
        number (codes " ttvn=") one.table.ttvn refl,
        (
          number (codes " vlans=") (length one.table.vlans) refl,
          (
            number (codes " part=") one.number refl,
            (
              number (codes " of=") one.count refl,
              (number (codes " changes=") (length one.table.changes) refl, tt),
            ),
          ),
        ),
      ),
    )

change_told : (change : TtChange) → Told of_other (change_line change)
unfolding change_line
change_told change = told of_other (named_flags (codes "change ") change.flags ∷ named_address (codes " ") change.key.mac ∷ codes " " ∷ vid_text change.key.vid ∷ [])
    (byte_flags (codes "change ") change.flags refl, (mac (codes " ") change.key.mac refl, (said (codes " ") refl, (unbroken_word (vid_text change.key.vid) (vid_word change.key.vid), tt)))) refl

rows_other : (table : TtData) → AllOther (rows_of_table table)
rows_other table = other_both (map vlan_line table.vlans) (map change_line table.changes) (other_map vlan_line vlan_told table.vlans) (other_map change_line change_told table.changes)

content_other : (c : Container) (o : Option Content) → AllOther (content_lines c o)
content_other c None = tt
content_other c (Some (gateway b)) = (gateway_told c b, tt)
content_other c (Some (translation table)) = (table_told c table, rows_other table)
content_other c (Some (part one)) = (part_told c one, rows_other one.table)
content_other c (Some (roaming key)) = (roaming_told c key, tt)
content_other c (Some (multicast flags)) = (multicast_told c flags, tt)
content_other c (Some unread) = (plain_told c, tt)

-- ---- endings
bad_packet_told : (cause : NoPacket) → Told of_other (bad_packet_line cause)
unfolding bad_packet_line
bad_packet_told (Short have need) = told of_other (codes "bad short" ∷ named_number (codes " have=") have ∷ named_number (codes " need=") need ∷ []) (said (codes "bad short") refl, (number (codes " have=") have refl, (number (codes " need=") need refl, tt))) refl
bad_packet_told (Version version) = told of_other (named_number (codes "bad version ") version ∷ []) (number (codes "bad version ") version refl, tt) refl
bad_packet_told (Kind kind) = told of_other (named_number (codes "bad kind ") kind ∷ []) (number (codes "bad kind ") kind refl, tt) refl
bad_packet_told (Length said_len left) = told of_other (codes "bad length" ∷ named_number (codes " told=") said_len ∷ named_number (codes " left=") left ∷ []) (said (codes "bad length") refl, (number (codes " told=") said_len refl, (number (codes " left=") left refl, tt))) refl

bad_container_told : (flaw : TvlvErr) → Told of_other (bad_container_line flaw)
unfolding bad_container_line
bad_container_told (Cut place) = told of_other (codes "bad cut" ∷ named_number (codes " place=") place ∷ []) (said (codes "bad cut") refl, (number (codes " place=") place refl, tt)) refl
bad_container_told (BadLength kind len) = told of_other (codes "bad badlength" ∷ named_number (codes " kind=") kind ∷ named_number (codes " len=") len ∷ []) (said (codes "bad badlength") refl, (number (codes " kind=") kind refl, (number (codes " len=") len refl, tt))) refl

rest_told : (len : ℕ) → Told of_other (rest_line len)
unfolding rest_line
rest_told len = told of_other (named_number (codes "rest ") len ∷ []) (number (codes "rest ") len refl, tt) refl

rest_other : (b : Bool) (len : ℕ) → AllOther (cond b [] (rest_line len ∷ []))
rest_other true len = tt
rest_other false len = (rest_told len, tt)

ending_other : (ending : Ending) → AllOther (ending_lines ending)
ending_other (Rest len) = rest_other (nat_eq len 0) len
ending_other (BadPacket cause) = (bad_packet_told cause, tt)
ending_other (BadContainer flaw) = (bad_container_told flaw, tt)

-- ---- what is decoded
tail_other : (kind : TailKind) (tail : List ℕ) → AllOther (tail_lines kind tail)
tail_other containers tail = other_flat container_lines (λ c. content_other c (content_of c)) (sound_containers tail)
tail_other all_the_rest tail = tt
tail_other nothing tail = tt

packet_other : (packet : Packet) → AllOther (packet_lines packet)
packet_other packet = (packet_told packet.head (length packet.tail), tail_other (shape_of packet.head).tail packet.tail)

pub decoded_other : (bytes : List ℕ) → AllOther (decode_lines bytes)
decoded_other bytes = go (link_frame bytes)
  where
    go : (frame : LinkFrame) → AllOther (frame_lines frame)
    go frame = other_both (flat_map packet_lines frame.packets) (ending_lines frame.ending) (other_flat packet_lines packet_other frame.packets) (ending_other frame.ending)
