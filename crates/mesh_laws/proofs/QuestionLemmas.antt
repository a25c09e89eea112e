-- What is printed as found answers a question.
use Rattle.std.proofs.Common.{◌≡◌, ◌⊎◌, inl, inr, ◌||◌, ◌&&◌, ℕ, Bool, true, false, not, cond, List, [], ◌∷◌, ◌++◌, Option, Some, None, refl, sym, ap, subst, ◌∙◌}
use Rattle.mesh_base.specs.declared.address.Mac.{Mac}
use Rattle.mesh_base.specs.declared.client.Vid.{Vid}
use Rattle.mesh_base.specs.declared.event.ArpResult.TheVariants.{Cached, Found, Off, Unknown}
use Rattle.mesh_base.specs.declared.event.Event.TheVariants.{Arp}
use Rattle.mesh_model.specs.declared.act.Act.{Act}
use Rattle.mesh_model.specs.declared.act.Act.TheVariants.{Print}
use Rattle.mesh_model.specs.declared.packet.Head.{Head}
use Rattle.mesh_model.specs.Acts.ArpRows.{answer_to, answered_acts, arp_here, arp_told, asked_acts, came_acts, known_or_asked, learned_acts, message_of_client, pair_acts, question_acts, table_packet, table_packets}
use Rattle.mesh_model.specs.Acts.BridgeRows.{Place}
use Rattle.mesh_model.specs.Acts.Packing.{sent_over}
use Rattle.mesh_model.specs.Knowledge.Known.{Knowledge}
use Rattle.mesh_model.specs.Knowledge.Pairs.{after_came, known_address, pair_keepers, with_learned}
use Rattle.mesh_model.specs.Net.Next.{Has}
use Rattle.mesh_model.specs.Packets.ArpMessages.{ArpCame, ArpMessage, Asks, Puts, Tells, arp_reply, arp_request, arp_spelling}
use Rattle.mesh_model.specs.Packets.Ethernet.{all_stations}
use Rattle.mesh_model.specs.Packets.Numbers.{dht_get_subtype, dht_put_subtype}
use Rattle.mesh_model.specs.Routes.Queries.{Queries}
use Rattle.mesh_model.specs.Services.ArpTable.{PairCall, AskedFor, ToldOf, is_awaited, same_pair}
use Rattle.mesh_laws.specs.AddressLaws.{AnswersQuestion, AwaitedUntilTold, FoundAnswersQuestion, NoneAwaitedUntilAsked, QuestionFindsNone, WasAskedSince}
use Rattle.mesh_laws.proofs.PairLemmas.{pair_is, pair_itself}
use Rattle.mesh_laws.proofs.Schedule.Members.{has_either}

-- ---- what is awaited
asked_is : (k ip : ℕ) (v vid : Vid) → same_pair k v ip vid ≡ true → AskedFor k v ≡ AskedFor ip vid
asked_is k ip v vid is = let p = pair_is k ip v vid is in ap (λ i. AskedFor i v) p.0 ∙ ap (AskedFor ip) p.1

told_is : (k ip : ℕ) (v vid : Vid) → same_pair k v ip vid ≡ true → ToldOf k v ≡ ToldOf ip vid
told_is k ip v vid is = let p = pair_is k ip v vid is in ap (λ i. ToldOf i v) p.0 ∙ ap (ToldOf ip) p.1

is_told : (k ip : ℕ) (v vid : Vid) → ToldOf ip vid ≡ ToldOf k v → same_pair k v ip vid ≡ true
is_told k ip v vid is =
    let same_ip : ip ≡ k = cc in
    let same_vid : vid ≡ v = cc in
    subst (λ i. same_pair k v i vid ≡ true) (sym same_ip) (subst (λ x. same_pair k v k x ≡ true) (sym same_vid) (pair_itself k v))

awaited_asked : (calls : List PairCall) (ip : ℕ) (vid : Vid) → is_awaited calls ip vid ≡ true → WasAskedSince calls ip vid
awaited_asked [] ip vid is = cc
awaited_asked (AskedFor k v ∷ older) ip vid is = go (same_pair k v ip vid) refl is (awaited_asked older ip vid)
  where
    untold : (newer : List PairCall) → (Has newer (ToldOf ip vid) → ⊥) → Has (AskedFor k v ∷ newer) (ToldOf ip vid) → ⊥
    untold newer none (inl is) = cc
    untold newer none (inr has) = none has

    go : (b : Bool) → same_pair k v ip vid ≡ b → (b || is_awaited older ip vid) ≡ true → (is_awaited older ip vid ≡ true → WasAskedSince older ip vid) → WasAskedSince (AskedFor k v ∷ older) ip vid
    go true same e more = record { newer = []; older = older; calls_are = ap (λ x. x ∷ older) (asked_is k ip v vid same); untold = λ none. none }
    go false same e more = let w = more e in record { newer = AskedFor k v ∷ w.newer; older = w.older; calls_are = ap (λ xs. AskedFor k v ∷ xs) w.calls_are; untold = untold w.newer w.untold }
awaited_asked (ToldOf k v ∷ older) ip vid is = go (same_pair k v ip vid) refl is (awaited_asked older ip vid)
  where
    untold : same_pair k v ip vid ≡ false → (newer : List PairCall) → (Has newer (ToldOf ip vid) → ⊥) → Has (ToldOf k v ∷ newer) (ToldOf ip vid) → ⊥
    untold other newer none (inl is) = let same = is_told k ip v vid is in cc
    untold other newer none (inr has) = none has

    go : (b : Bool) → same_pair k v ip vid ≡ b → (not b && is_awaited older ip vid) ≡ true → (is_awaited older ip vid ≡ true → WasAskedSince older ip vid) → WasAskedSince (ToldOf k v ∷ older) ip vid
    go true same e more = cc
    go false same e more = let w = more e in record { newer = ToldOf k v ∷ w.newer; older = w.older; calls_are = ap (λ xs. ToldOf k v ∷ xs) w.calls_are; untold = untold same w.newer w.untold }

either_true : (a b : Bool) → b ≡ true → (a || b) ≡ true
either_true true b e = refl
either_true false b e = e

both_false : (a b : Bool) → b ≡ false → (a && b) ≡ false
both_false true b e = e
both_false false b e = refl

asked_awaited : (newer older : List PairCall) (ip : ℕ) (vid : Vid) → (Has newer (ToldOf ip vid) → ⊥) → is_awaited (newer ++ AskedFor ip vid ∷ older) ip vid ≡ true
asked_awaited [] older ip vid none = ap (λ b. b || is_awaited older ip vid) (pair_itself ip vid)
asked_awaited (AskedFor k v ∷ rest) older ip vid none = either_true (same_pair k v ip vid) (is_awaited (rest ++ AskedFor ip vid ∷ older) ip vid) (asked_awaited rest older ip vid (λ has. none (inr has)))
asked_awaited (ToldOf k v ∷ rest) older ip vid none = go (same_pair k v ip vid) refl (asked_awaited rest older ip vid (λ has. none (inr has)))
  where
    go : (b : Bool) → same_pair k v ip vid ≡ b → is_awaited (rest ++ AskedFor ip vid ∷ older) ip vid ≡ true → (not b && is_awaited (rest ++ AskedFor ip vid ∷ older) ip vid) ≡ true
    go true same more = absurd (none (inl (sym (told_is k ip v vid same))))
    go false same more = more

is_asked : (calls : List PairCall) (ip : ℕ) (vid : Vid) → WasAskedSince calls ip vid → is_awaited calls ip vid ≡ true
is_asked calls ip vid w = ap (λ xs. is_awaited xs ip vid) w.calls_are ∙ asked_awaited w.newer w.older ip vid w.untold

pub awaited_until_told : AwaitedUntilTold
awaited_until_told calls ip vid = (awaited_asked calls ip vid, is_asked calls ip vid)

told_unawaited : (newer older : List PairCall) (ip : ℕ) (vid : Vid) → (Has newer (AskedFor ip vid) → ⊥) → is_awaited (newer ++ ToldOf ip vid ∷ older) ip vid ≡ false
told_unawaited [] older ip vid none = ap (λ b. not b && is_awaited older ip vid) (pair_itself ip vid)
told_unawaited (AskedFor k v ∷ rest) older ip vid none = go (same_pair k v ip vid) refl (told_unawaited rest older ip vid (λ has. none (inr has)))
  where
    go : (b : Bool) → same_pair k v ip vid ≡ b → is_awaited (rest ++ ToldOf ip vid ∷ older) ip vid ≡ false → (b || is_awaited (rest ++ ToldOf ip vid ∷ older) ip vid) ≡ false
    go true same more = absurd (none (inl (sym (asked_is k ip v vid same))))
    go false same more = more
told_unawaited (ToldOf k v ∷ rest) older ip vid none = both_false (not (same_pair k v ip vid)) (is_awaited (rest ++ ToldOf ip vid ∷ older) ip vid) (told_unawaited rest older ip vid (λ has. none (inr has)))

pub none_awaited_until_asked : NoneAwaitedUntilAsked
none_awaited_until_asked now known message newer takes none = go known.services.settings.arp_table takes
  where
    go : (b : Bool) → b ≡ true → is_awaited (newer ++ (cond b (after_came now (Some (Tells message)) known) known).services.asks) message.sender_ip message.vid ≡ false
    go true is = told_unawaited newer known.services.asks message.sender_ip message.vid none
    go false is = cc

-- ---- what is found
same_found : (node me : Mac) (ip k : ℕ) (mac found : Mac) → Print (Arp node ip (Found mac)) ≡ Print (Arp me k (Found found)) → (node ≡ me) × (ip ≡ k) × (mac ≡ found)
same_found node me ip k mac found is = (cc, cc, cc)

-- nothing is printed as found
abbrev FindNone : List Act → Type 0
FindNone acts = (node : Mac) (ip : ℕ) (mac : Mac) → Has acts (Print (Arp node ip (Found mac))) → ⊥

none_in_both : (xs ys : List Act) → FindNone xs → FindNone ys → FindNone (xs ++ ys)
none_in_both xs ys a b node ip mac has = go (has_either xs ys (Print (Arp node ip (Found mac))) has)
  where
    go : Has xs (Print (Arp node ip (Found mac))) ⊎ Has ys (Print (Arp node ip (Found mac))) → ⊥
    go (inl h) = a node ip mac h
    go (inr h) = b node ip mac h

none_if : (b : Bool) (xs ys : List Act) → FindNone xs → FindNone ys → FindNone (cond b xs ys)
none_if true xs ys a b = a
none_if false xs ys a b = b

none_over : (next : Option Mac) (head : Head) (tail : List ℕ) → FindNone (sent_over next head tail)
none_over None head tail node ip mac has = absurd has
none_over (Some next) head tail node ip mac (inl is) = cc
none_over (Some next) head tail node ip mac (inr none) = absurd none

none_in_packets : (q : Queries) (known : Knowledge) (at : Place) (subtype : ℕ) (m : ArpMessage) (nodes : List Mac) → FindNone (table_packets q known at subtype m nodes)
none_in_packets q known at subtype m [] = λ node ip mac has. absurd has
none_in_packets q known at subtype m (first ∷ rest) =
    none_in_both (table_packet q known at subtype first (arp_spelling all_stations m.sender m)) (table_packets q known at subtype m rest)
    (none_over (q.route known.routes at.now first) _ (arp_spelling all_stations m.sender m)) (none_in_packets q known at subtype m rest)

-- a question
none_unknown : (at : Place) (asked : ℕ) → FindNone (arp_told at asked Unknown)
none_unknown at asked node ip mac (inl is) = cc
none_unknown at asked node ip mac (inr none) = absurd none

none_cached : (at : Place) (asked : ℕ) (found : Mac) → FindNone (arp_told at asked (Cached found))
none_cached at asked found node ip mac (inl is) = cc
none_cached at asked found node ip mac (inr none) = absurd none

none_off : (at : Place) (asked : ℕ) → FindNone (arp_told at asked Off)
none_off at asked node ip mac (inl is) = cc
none_off at asked node ip mac (inr none) = absurd none

none_asked : (q : Queries) (known : Knowledge) (at : Place) (client : Mac) (own_ip asked_ip : ℕ) (vid : Vid) (nodes : List Mac) → FindNone (asked_acts q known at client own_ip asked_ip vid nodes)
none_asked q known at client own_ip asked_ip vid [] = none_unknown at asked_ip
none_asked q known at client own_ip asked_ip vid (first ∷ rest) = none_in_packets q known at dht_get_subtype (message_of_client arp_request client own_ip asked_ip vid) (first ∷ rest)

none_known : (q : Queries) (known : Knowledge) (at : Place) (client : Mac) (own_ip asked_ip : ℕ) (vid : Vid) (o : Option Mac) → FindNone (known_or_asked q known at client own_ip asked_ip vid o)
none_known q known at client own_ip asked_ip vid None = none_asked q known at client own_ip asked_ip vid (pair_keepers q at.me known at.now asked_ip vid)
none_known q known at client own_ip asked_ip vid (Some found) = none_cached at asked_ip found

pub question_finds_none : QuestionFindsNone
unfolding question_acts
question_finds_none q known at client own_ip asked_ip vid =
    let learned = with_learned at.now own_ip vid client known in
    let o = known_address learned at.now asked_ip vid in
    none_if known.services.settings.arp_table (learned_acts q learned at client own_ip asked_ip vid) (arp_told at asked_ip Off)
    (none_in_both (pair_acts q learned at client own_ip vid) (known_or_asked q learned at client own_ip asked_ip vid o)
    (none_in_packets q learned at dht_put_subtype (message_of_client arp_reply client own_ip 0 vid) (pair_keepers q at.me learned at.now own_ip vid))
    (none_known q learned at client own_ip asked_ip vid o))
    (none_off at asked_ip)

-- a packet
none_answered : (q : Queries) (known : Knowledge) (at : Place) (src : Mac) (m : ArpMessage) (o : Option Mac) → FindNone (answered_acts q known at src m o)
none_answered q known at src m None = λ node ip mac has. absurd has
none_answered q known at src m (Some found) = none_over (q.route known.routes at.now src) _ (arp_spelling m.sender found (answer_to m found))

told_found : (known : Knowledge) (at : Place) (m : ArpMessage) (node : Mac) (ip : ℕ) (mac : Mac) (b : Bool) → is_awaited known.services.asks m.sender_ip m.vid ≡ b
    → Has (cond b (arp_told at m.sender_ip (Found m.sender)) []) (Print (Arp node ip (Found mac))) → (node ≡ at.me) × AnswersQuestion known (Some (Tells m)) ip mac
told_found known at m node ip mac true awaited (inl is) =
    let s = same_found node at.me ip m.sender_ip mac m.sender is in (
      s.0,
      record {
        message = m;
        came_is = refl;
        ip_is = sym s.1;
        address_is = sym s.2;
        asked = subst (λ i. WasAskedSince known.services.asks i m.vid) (sym s.1) (awaited_asked known.services.asks m.sender_ip m.vid awaited);
      },
    )
told_found known at m node ip mac true awaited (inr none) = absurd none
told_found known at m node ip mac false awaited has = absurd has

came_found : (q : Queries) (known : Knowledge) (at : Place) (src : Mac) (came : Option ArpCame) (node : Mac) (ip : ℕ) (mac : Mac) → Has (came_acts q known at src came) (Print (Arp node ip (Found mac))) → (node ≡ at.me) × AnswersQuestion known came ip mac
came_found q known at src None node ip mac has = absurd has
came_found q known at src (Some (Puts m)) node ip mac has = absurd has
came_found q known at src (Some (Asks m)) node ip mac has = absurd (none_answered q known at src m (known_address known at.now m.target_ip m.vid) node ip mac has)
came_found q known at src (Some (Tells m)) node ip mac has = told_found known at m node ip mac (is_awaited known.services.asks m.sender_ip m.vid) refl has

found_told : (known : Knowledge) (at : Place) (m : ArpMessage) → WasAskedSince known.services.asks m.sender_ip m.vid → Has (cond (is_awaited known.services.asks m.sender_ip m.vid) (arp_told at m.sender_ip (Found m.sender)) []) (Print (Arp at.me m.sender_ip (Found m.sender)))
found_told known at m asked = subst (λ b. Has (cond b (arp_told at m.sender_ip (Found m.sender)) []) (Print (Arp at.me m.sender_ip (Found m.sender)))) (sym (is_asked known.services.asks m.sender_ip m.vid asked)) (inl refl)

found_came : (q : Queries) (known : Knowledge) (at : Place) (src : Mac) (came : Option ArpCame) (node : Mac) (ip : ℕ) (mac : Mac) → node ≡ at.me → AnswersQuestion known came ip mac → Has (came_acts q known at src came) (Print (Arp node ip (Found mac)))
found_came q known at src came node ip mac is a =
    let m = a.message in
    let asked = subst (λ i. WasAskedSince known.services.asks i m.vid) (sym a.ip_is) a.asked in
    let event : Print (Arp at.me m.sender_ip (Found m.sender)) ≡ Print (Arp node ip (Found mac)) =
    ap (λ n. Print (Arp n m.sender_ip (Found m.sender))) (sym is) ∙ ap (λ i. Print (Arp node i (Found m.sender))) a.ip_is ∙ ap (λ x. Print (Arp node ip (Found x))) a.address_is in
    subst (λ o. Has (came_acts q known at src o) (Print (Arp node ip (Found mac)))) (sym a.came_is) (subst (Has (came_acts q known at src (Some (Tells m)))) event (found_told known at m asked))

pub found_answers_question : FoundAnswersQuestion
unfolding arp_here
found_answers_question q known at src came node ip mac = (forth known.services.settings.arp_table refl, λ a. back known.services.settings.arp_table a.1 a.0 a.2)
  where
    event : Act
    event = Print (Arp node ip (Found mac))

    forth : (b : Bool) → known.services.settings.arp_table ≡ b → Has (cond b (came_acts q known at src came) []) event → (node ≡ at.me) × (known.services.settings.arp_table ≡ true) × AnswersQuestion known came ip mac
    forth true takes has = let p = came_found q known at src came node ip mac has in (p.0, takes, p.1)
    forth false takes has = absurd has

    back : (b : Bool) → b ≡ true → node ≡ at.me → AnswersQuestion known came ip mac → Has (cond b (came_acts q known at src came) []) event
    back true takes is a = found_came q known at src came node ip mac is a
    back false takes is a = cc
