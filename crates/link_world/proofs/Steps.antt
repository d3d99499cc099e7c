-- One step of a connection preserves what holds of it.
use Rattle.link_world.proofs.Prelude.{◌≡◌, ℕ, ◌+◌, ◌<◌, ◌≤◌, min, Bool, true, false, not, ◌&&◌, inl, inr, List, [], ◌++◌, length, take}
use Rattle.link_world.proofs.Prelude.{drop, refl, sym, ap, ◌∙◌, subst, arith, Option, Some, None, length-append, ltb, append_assoc, wrap}
use Rattle.link_world.proofs.Prelude.{PlainSegment, has_fin, has_rst, has_ack, Beat, AppState, Snapshot, AppSpec, IsPrefixOf, MayWant, Now}
use Rattle.link_world.proofs.Prelude.{State, Closed, SynRcvd, Established, CloseWait, FinWait1, FinWait2, Closing, TimeWait, LastAck, Want}
use Rattle.link_world.proofs.Prelude.{Nothing, Send, Close, Abort, Connection, is_live, rcv_nxt, bare_ack, syn_ack, text_segment, fin_of}
use Rattle.link_world.proofs.Prelude.{reset_of, Outcome, leaves, closes, after_own_fin, peer_has_closed, idles, does_as_wanted, prepared}
use Rattle.link_world.proofs.Prelude.{ask, asked_for, asked, is_out_of_order, is_acked, rests, has_text, delivers_text, takes, with_part}
use Rattle.link_world.proofs.Prelude.{in_state, with_window, connects, peer_closes, stays_established, in_established, fin_acked, fin_waits}
use Rattle.link_world.proofs.Prelude.{by_state, on_segment, outstanding, grows_older, by_beat, on_tick, Step, AbstractClient, own_first}
use Rattle.link_world.proofs.Prelude.{IsPart, prefix_part, prefix_length, prefix_joins, and_true, same_place, empty_part, zero_or_more}
use Rattle.link_world.proofs.Prelude.{ltb-zero, in_place, choose, append_nothing, cut_part, both_ways, is_open, by_open, by_own_fin}
use Rattle.link_world.proofs.Prelude.{fin_lives, on_tick_by, open_live}
use Rattle.link_world.proofs.Later.{page_more, page_received, prefix_grows, prefix_all}
use Rattle.link_world.proofs.CleanClientInvariant.{Spoken, spoken, AtSyn, AtText, AtOpen, AtFin, ConnGood, StateGood, Moved, StepGood}
use Rattle.link_world.proofs.CleanClientInvariant.{SentGood, ClientSent, IsData, Steady}
use Rattle.link_world.proofs.CleanClientInvariant.NodeSent.{node_reset, node_syn, node_ack, node_text, node_fin}
use Rattle.link_world.proofs.CleanClientInvariant.ClientSent.{sent_reset, sent_syn, sent_data}
use Rattle.link_world.proofs.Speaking.{Speaker, HasOutputModel, page_by, ReceivesSome, KeepsReceived, Received, receives_is, prepare_is}
use Rattle.link_world.proofs.Speaking.{acked_is, wants_is}

module _ (m : AppSpec) (speaker : Speaker) (laws : HasOutputModel m speaker) where
  module _ (opened : Option ℕ) (client : AbstractClient) where
    -- what a connection may send
    outputs_ack : (d : Connection) → is_live d.state ≡ true → SentGood speaker opened client d (bare_ack d)
    outputs_ack d l = record { incarnations = λ e. l; output = node_ack refl record { no_syn = refl; no_fin = refl; no_text = refl } }

    sends_reset : (d c : Connection) → SentGood speaker opened client d (reset_of c)
    sends_reset d c = record { incarnations = λ e. absurd (let z : true ≡ false = e in cc); output = node_reset refl }

    pub sends_syn : (d : Connection) → is_live d.state ≡ true → d.acked ≡ 0 → SentGood speaker opened client d (syn_ack d)
    sends_syn d l z = record { incarnations = λ e. l; output = node_syn refl record { syn = refl; seq = ap wrap (omega (arith, z)) } }

    sends_text : (d : Connection) → is_live d.state ≡ true → AtText speaker opened client d → SentGood speaker opened client d (text_segment m d)
    sends_text d l h =
        let output : m.output d.part ≡ speaker.text d.part.input d.part.snapshots = laws.output d.part h.here in
        record {
          incarnations = λ e. l;
          output = node_text refl h.opened_is record {
            no_syn = refl;
            no_fin = refl;
            at = d.part.acked;
            part = subst (λ t. IsPart (speaker.text client.request d.part.snapshots) (take d.len (drop d.part.acked t)) d.part.acked) (sym output)
                (prefix_part (speaker.text d.part.input d.part.snapshots) (speaker.text client.request d.part.snapshots)
                (take d.len (drop d.part.acked (speaker.text d.part.input d.part.snapshots))) d.part.acked
                (prefix_grows m speaker laws d.part.input client.request d.part.snapshots h.input)
                (cut_part (speaker.text d.part.input d.part.snapshots) d.part.acked d.len h.fits));
            seq = ap wrap (omega (arith, h.count));
          };
        }

    sends_fin : (d : Connection) → is_live d.state ≡ true → AtFin speaker opened client d → SentGood speaker opened client d (fin_of d)
    sends_fin d l h = record {
      incarnations = λ e. l;
      output = node_fin refl h.opened_is record {
        no_syn = refl;
        is_fin = refl;
        no_text = refl;
        at = d.part.acked;
        ends = h.ends;
        seq = ap wrap (omega (arith, h.count));
      };
    }

    move_silent : (c d : Connection) → Moved speaker opened client c d → StepGood speaker opened client c (record { connection = d; sent = None })
    move_silent c d h = record { moved = h; output = λ s e. absurd (cc) }

    move_sends : (c d : Connection) (s : PlainSegment) → Moved speaker opened client c d → SentGood speaker opened client d s
        → StepGood speaker opened client c (record { connection = d; sent = Some s })
    move_sends c d s h g = record { moved = h; output = λ x e. subst (λ y. SentGood speaker opened client d y) (let e' : s ≡ x = cc in e') g }

    stays_good : (c : Connection) → ConnGood speaker opened client c → Moved speaker opened client c c
    stays_good c g = record { iss = refl; more = []; snapshots = sym (append_nothing c.part.snapshots); good = λ l. g }

    -- d is c in another state, or with other counts
    turns : (c d : Connection) → d.iss ≡ c.iss → d.part.snapshots ≡ c.part.snapshots → d.irs ≡ own_first client
        → StateGood speaker opened client d d.state → Moved speaker opened client c d
    turns c d f k pf s = record { iss = f; more = []; snapshots = k ∙ sym (append_nothing c.part.snapshots); good = λ y. record { irs = pf; state = s } }

    closes_good : (c d : Connection) → d.iss ≡ c.iss → d.part.snapshots ≡ c.part.snapshots → Moved speaker opened client c (closes d)
    closes_good c d f k = record { iss = f; more = []; snapshots = k ∙ sym (append_nothing c.part.snapshots); good = λ l. absurd (cc) }

    -- a step from b, which c had become
    from_good : (c b : Connection) (step : Spoken) (more : List Snapshot) → b.iss ≡ c.iss → b.part.snapshots ≡ c.part.snapshots ++ more
        → StepGood speaker opened client b step → StepGood speaker opened client c step
    from_good c b step more f k g = record {
      moved = record {
        iss = g.moved.iss ∙ f;
        more = more ++ g.moved.more;
        snapshots = g.moved.snapshots ∙ ap (λ l. l ++ g.moved.more) k ∙ append_assoc c.part.snapshots more g.moved.more;
        good = g.moved.good;
      };
      output = g.output;
    }

    state_at : (d : Connection) (st : State) → d.state ≡ st → StateGood speaker opened client d st → StateGood speaker opened client d d.state
    state_at d st e h = subst (λ x. StateGood speaker opened client d x) (sym e) h

    -- in ESTABLISHED and CLOSE-WAIT
    text_at : (c : Connection) (st : State) → is_open st ≡ true → StateGood speaker opened client c st → AtText speaker opened client c
    text_at c st o h = by_open (λ x. StateGood speaker opened client c x → AtText speaker opened client c) (λ g. g.text) (λ g. g) st o h

    text_state : (c d : Connection) (st : State) → is_open st ≡ true → StateGood speaker opened client c st → AtText speaker opened client d
        → d.taken ≡ c.taken → d.part.input ≡ c.part.input → speaker.lost d.part ≡ speaker.lost c.part → StateGood speaker opened client d st
    text_state c d st o h t e f l =
        by_open (λ x. StateGood speaker opened client c x → StateGood speaker opened client d x)
        (λ g. record { text = t; taken = λ n. e ∙ g.taken (sym l ∙ n) ∙ ap length (sym f) }) (λ g. t) st o h

    fin_state : (d : Connection) (st : State) → AtFin speaker opened client d → StateGood speaker opened client d (after_own_fin st)
    fin_state d st h = by_own_fin (λ x. StateGood speaker opened client d x) h h st

    -- the same text with other counts
    like_text : (c d : Connection) → speaker.here d.part ≡ true → d.part.input ≡ c.part.input → d.part.snapshots ≡ c.part.snapshots
        → d.acked ≡ 1 + d.part.acked → d.part.acked + d.len ≤ length (speaker.text c.part.input c.part.snapshots)
        → AtText speaker opened client c → AtText speaker opened client d
    like_text c d here f k n l h =
        let e : length (speaker.text d.part.input d.part.snapshots) ≡ length (speaker.text c.part.input c.part.snapshots) = ap
        (λ q. length (speaker.text q d.part.snapshots)) f ∙ ap (λ q. length (speaker.text c.part.input q)) k in
        record { opened_is = h.opened_is; here = here; input = subst (λ q. IsPrefixOf q client.request) (sym f) h.input; fits = omega (arith, e, l); count = n }

    -- what is requested
    wanted_good : (w : Want) (fresh : Bool) (c : Connection) (numbers : List ℕ) → is_open c.state ≡ true → ConnGood speaker opened client c
        → AtText speaker opened client c → MayWant (page_by speaker) c.part w →
        StepGood speaker opened client c (spoken m (does_as_wanted w fresh c numbers))
    unfolding idles
    wanted_good Abort fresh c numbers o g h w = move_sends c (closes c) (reset_of (closes c)) (closes_good c c refl refl) (sends_reset (closes c) (closes c))
    wanted_good Close fresh c numbers o g h w =
        let d : Connection = record c { state = after_own_fin c.state; len = 1; age = 0 } in
        let a : AtFin speaker opened client d = record {
          opened_is = h.opened_is;
          ends = prefix_all m speaker laws client c.part.input
              c.part.snapshots c.part.acked h.input w.0 w.1;
          count = h.count;
          input = h.input;
        } in
        move_sends c d (fin_of d) (turns c d refl refl g.irs (fin_state d c.state a)) (sends_fin d (fin_lives c.state) a)
    wanted_good (Send n) fresh c numbers o g h w =
        let d : Connection = record c { len = min n c.mss; age = 0 } in
        let t : AtText speaker opened client d = like_text c d h.here refl refl h.count (omega (arith, w.1)) h in
        move_sends c d (text_segment m d) (turns c d refl refl g.irs (text_state c d c.state o g.state t refl refl refl)) (sends_text d (open_live c.state o) t)
    wanted_good Nothing fresh c numbers o g h w =
        choose (λ (x : Outcome). StepGood speaker opened client c (spoken m x)) (peer_has_closed c.state) _ _
        (λ e. move_sends c (closes c) (reset_of (closes c)) (closes_good c c refl refl) (sends_reset (closes c) (closes c)))
        (λ e. choose (λ (x : Outcome). StepGood speaker opened client c (spoken m x)) fresh _ _
        (λ f. move_sends c c (bare_ack c) (stays_good c g) (outputs_ack c (open_live c.state o)))
        (λ f. move_silent c c (stays_good c g)))

    -- a step that ends by asking
    pub record AskGood (c d : Connection) : Type 0 where
      pub moved : Moved speaker opened client c d
      pub is_asked : is_open d.state ≡ true
      pub idle : d.len ≡ 0

    pub asking_good : (c d : Connection) (now : Now) (fresh : Bool) (numbers : List ℕ) → AskGood c d
        → StepGood speaker opened client c (spoken m (ask m now fresh d numbers))
    asking_good c d now fresh numbers a =
        let g : ConnGood speaker opened client d = a.moved.good (open_live d.state a.is_asked) in
        let h : AtText speaker opened client d = text_at d d.state a.is_asked g.state in
        let p = prepare_is m speaker laws numbers d.part now h.here in
        let q : AppState = m.prepare numbers d.part now in
        let b : Connection = prepared m now d numbers in
        let e : length (speaker.text q.input q.snapshots) ≡ length (speaker.text d.part.input (d.part.snapshots ++ p.more)) = ap
        (λ x. length (speaker.text x q.snapshots)) p.keeps.input ∙ ap (λ x. length (speaker.text d.part.input x)) p.snapshots in
        let more : length (speaker.text d.part.input d.part.snapshots) ≤ length (speaker.text d.part.input (d.part.snapshots ++ p.more)) =
        prefix_length (speaker.text d.part.input d.part.snapshots) (speaker.text d.part.input (d.part.snapshots ++ p.more))
        (page_more m speaker laws d.part.input d.part.snapshots p.more) in
        let t : AtText speaker opened client b = record {
          opened_is = h.opened_is;
          here = p.keeps.here;
          input = subst (λ x. IsPrefixOf x client.request) (sym p.keeps.input) h.input;
          fits = omega (arith, e, more, h.fits, p.acked);
          count = omega (arith, h.count, p.acked);
        } in
        let gb : ConnGood speaker opened client b =
        record { irs = g.irs; state = text_state d b d.state a.is_asked g.state t refl p.keeps.input p.keeps.lost } in
        from_good c b (spoken m (ask m now fresh d numbers)) (a.moved.more ++ p.more) a.moved.iss
        (p.snapshots ∙ ap (λ l. l ++ p.more) a.moved.snapshots ∙ append_assoc c.part.snapshots a.moved.more p.more)
        (wanted_good (m.want numbers q) fresh b numbers a.is_asked gb t (wants_is m speaker laws numbers q t.here (omega (arith, t.fits))))

    abbrev pub OutBy : Connection → Connection → Step → Type 0
    OutBy c d (Step.Ask fresh) = AskGood c d
    OutBy c d Step.Drop = StepGood speaker opened client c (record { connection = d; sent = None })
    OutBy c d Step.Ack = StepGood speaker opened client c (record { connection = d; sent = Some (bare_ack d) })
    OutBy c d (Step.SynAck again) = StepGood speaker opened client c (record { connection = d; sent = Some (syn_ack d) })
    OutBy c d (Step.Text again) = StepGood speaker opened client c (record { connection = d; sent = Some (text_segment m d) })
    OutBy c d (Step.Fin again) = StepGood speaker opened client c (record { connection = d; sent = Some (fin_of d) })
    OutBy c d Step.Reset = StepGood speaker opened client c (record { connection = d; sent = Some (reset_of d) })

    abbrev pub OutGood : Connection → Outcome → Type 0
    OutGood c o = OutBy c o.connection o.step

    asked_for_good : (snapshot : Connection → Now) (c d : Connection) (numbers : List ℕ) (s : Step) → OutBy c d s
        → StepGood speaker opened client c (spoken m (asked_for m snapshot (leaves d numbers s) s))
    asked_for_good snapshot c d numbers (Step.Ask fresh) h = asking_good c d (snapshot d) fresh numbers h
    asked_for_good snapshot c d numbers _ h = h

    pub asked_good : (snapshot : Connection → Now) (c : Connection) (o : Outcome) → OutGood c o
        → StepGood speaker opened client c (spoken m (asked m snapshot o))
    asked_good snapshot c o h = asked_for_good snapshot c o.connection o.numbers o.step h

    -- the peer's text is in its request at the offset that the connection expects
    sent_part : (at_epoch : ℕ) (c : Connection) (s : PlainSegment) (n : ℕ) → Steady client → ClientSent client opened at_epoch s → has_rst s.flags ≡ false →
        c.irs ≡ own_first client → c.taken ≡ n → n ≤ length client.request → (0 < length s.text → s.seq ≡ rcv_nxt c) → IsPart client.request s.text n
    sent_part at_epoch c s n steady (sent_reset r) nr pf t l e = absurd (cc)
    sent_part at_epoch c s n steady (sent_syn y) nr pf t l e = empty_part client.request s.text n (ap length y.no_text) l
    sent_part at_epoch c s n steady (sent_data d) nr pf t l e =
        elim (zero_or_more (length s.text)) [
          | inl z ↦ empty_part client.request s.text n z l
          | inr k ↦ (let a : s.seq ≡ wrap (own_first client + 1 + d.at) = d.seq k in
              let b : s.seq ≡ wrap (c.irs + 1 + c.taken) = e k in
              let f : d.at ≡ n = same_place (own_first client + 1) d.at n (omega (arith, d.part.fits, steady.short))
              (omega (arith, l, steady.short)) (sym a ∙ b ∙ ap (λ x. wrap (x + 1 + c.taken)) pf ∙ ap (λ x. wrap (own_first client + 1 + x)) t) in
              subst (λ x. IsPart client.request s.text x) f d.part)
        ]

    is_data : (at_epoch : ℕ) (s : PlainSegment) → ClientSent client opened at_epoch s → has_rst s.flags ≡ false → has_ack s.flags ≡ true
        → IsData client opened s
    is_data at_epoch s (sent_reset r) nr a = absurd (cc)
    is_data at_epoch s (sent_syn y) nr a = absurd (let n : has_ack s.flags ≡ false = y.no_ack in cc)
    is_data at_epoch s (sent_data d) nr a = d

    -- What is received of a text that follows what was received: a prefix of it, or nothing if the state is lost.
    received_prefix : (p q : AppState) (text : List ℕ) → IsPrefixOf p.input client.request
        → (speaker.lost p ≡ false → IsPart client.request text (length p.input)) → ReceivesSome speaker p q text → IsPrefixOf q.input client.request
    received_prefix p q text h t x =
        both_ways (speaker.lost p)
        (λ l. subst (λ y. IsPrefixOf y client.request) (sym (x.no_more l).0) h)
        (λ l. let all : IsPrefixOf (p.input ++ text) client.request = prefix_joins client.request p.input text h (t l) in
        subst (λ y. IsPrefixOf y client.request) (sym x.input) record {
          rest = x.rest ++ all.rest;
          joined = sym (append_assoc (p.input ++ x.prefix) x.rest all.rest) ∙ ap (λ y. y ++ all.rest) (append_assoc p.input x.prefix x.rest
              ∙ ap (λ y. p.input ++ y) x.joined) ∙ all.joined;
        })

    -- if the state is not lost afterwards, all of it is received
    received_whole : (p q : AppState) (text : List ℕ) → ReceivesSome speaker p q text → speaker.lost q ≡ false → (speaker.lost p ≡ false)
        × (length q.input ≡ length p.input + length text)
    received_whole p q text x l = (
      both_ways (speaker.lost p) (λ y. absurd (let z : speaker.lost q ≡ true = (x.no_more y).1 in cc)) (λ y. y),
      elim (x.all) [
        | inl e ↦ (let t : x.prefix ≡ text = sym (append_nothing x.prefix) ∙ ap (λ y. x.prefix ++ y) (sym e) ∙ x.joined in
            ap (λ y. length y) x.input ∙ length-append p.input x.prefix ∙ ap (λ y. length p.input + length y) t)
        | inr e ↦ absurd (cc)
      ],
    )

    -- text is received in ESTABLISHED; the state may change, and the peer's window
    received_text : (c d : Connection) (text : List ℕ) → AtText speaker opened client c
        → (speaker.lost c.part ≡ false → IsPart client.request text (length c.part.input)) → Received m speaker laws c.part d.part text
        → d.acked ≡ c.acked → d.len ≡ c.len → AtText speaker opened client d
    received_text c d text h p x ea el =
        let prefix : List ℕ = x.some.prefix in
        let e : length (speaker.text d.part.input d.part.snapshots) ≡ length (speaker.text (c.part.input ++ prefix) c.part.snapshots) = ap
        (λ q. length (speaker.text q d.part.snapshots)) x.some.input ∙ ap (λ q. length (speaker.text (c.part.input ++ prefix) q)) x.snapshots in
        let more : length (speaker.text c.part.input c.part.snapshots) ≤ length (speaker.text (c.part.input ++ prefix) c.part.snapshots) =
        prefix_length (speaker.text c.part.input c.part.snapshots) (speaker.text (c.part.input ++ prefix) c.part.snapshots)
        (page_received m speaker laws c.part.input prefix c.part.snapshots) in
        record {
          opened_is = h.opened_is;
          here = x.some.here;
          input = received_prefix c.part d.part text h.input p x.some;
          fits = omega (arith, e, more, h.fits, x.acked, el);
          count = omega (arith, h.count, x.acked, ea);
        }

    prefix_fits : (c : Connection) → AtText speaker opened client c → length c.part.input ≤ length client.request
    prefix_fits c h = prefix_length c.part.input client.request h.input

    peer_closes_good : (c : Connection) (numbers : List ℕ) (s : PlainSegment) → c.irs ≡ own_first client → AtOpen speaker opened client c
        → (speaker.lost c.part ≡ false → IsPart client.request s.text (length c.part.input)) → OutGood c (peer_closes m c numbers s)
    unfolding peer_closes
    peer_closes_good c numbers s pf h part =
        let x = receives_is m speaker laws numbers c.part s.text h.text.here in
        let d : Connection = in_state CloseWait (with_window s.window (with_part (delivers_text m numbers c.part s.text).part (takes (length s.text + 1) c))) in
        let t : AtText speaker opened client d = received_text c d s.text h.text part x refl refl in
        let w : Moved speaker opened client c d = turns c d refl x.snapshots pf t in
        choose (λ (o : Outcome). OutGood c o) (ltb 0 c.len) _ _
        (λ e. move_sends c d (bare_ack d) w (outputs_ack d refl))
        (λ e. record { moved = w; is_asked = refl; idle = ltb-zero c.len e })

    goes_on_good : (acked : Bool) (c : Connection) (numbers : List ℕ) (s : PlainSegment) → c.state ≡ Established → c.irs ≡ own_first client
        → AtOpen speaker opened client c → (speaker.lost c.part ≡ false → IsPart client.request s.text (length c.part.input))
        → OutGood c (stays_established m acked c numbers s)
    unfolding stays_established
    goes_on_good acked c numbers s st pf h part =
        let x = receives_is m speaker laws numbers c.part s.text h.text.here in
        let d : Connection = with_window s.window (with_part (delivers_text m numbers c.part s.text).part (takes (length s.text) c)) in
        let t : AtText speaker opened client d = received_text c d s.text h.text part x refl refl in
        let a : AtOpen speaker opened client d =
        record { text = t; taken = λ l. (let y = received_whole c.part d.part s.text x.some l in omega (arith, h.taken y.0, y.1)) } in
        let w : Moved speaker opened client c d = turns c d refl x.snapshots pf (state_at d Established st a) in
        let l : is_live d.state ≡ true = ap is_live st in
        choose (λ (o : Outcome). OutGood c o) (not acked && not (has_text s)) _ _
        (λ e. move_silent c d w)
        (λ e. choose (λ (o : Outcome). OutGood c o) (ltb 0 c.len) _ _
        (λ f. move_sends c d (bare_ack d) w (outputs_ack d l))
        (λ f. record { moved = w; is_asked = ap is_open st; idle = ltb-zero c.len f }))

    established_good : (at_epoch : ℕ) (acked : Bool) (c : Connection) (numbers : List ℕ) (s : PlainSegment) → Steady client
        → ClientSent client opened at_epoch s → has_rst s.flags ≡ false →
        c.state ≡ Established → c.irs ≡ own_first client → AtOpen speaker opened client c → (0 < length s.text → s.seq ≡ rcv_nxt c)
        → OutGood c (in_established m acked c numbers s)
    unfolding in_established
    established_good at_epoch acked c numbers s steady output nr st pf h e =
        let part : speaker.lost c.part ≡ false → IsPart client.request s.text (length c.part.input) = λ l. sent_part at_epoch c s
        (length c.part.input) steady output nr pf (h.taken l) (prefix_fits c h.text) e in
        choose (λ (o : Outcome). OutGood c o) (has_fin s.flags) _ _
        (λ f. peer_closes_good c numbers s pf h part)
        (λ f. goes_on_good acked c numbers s st pf h part)

    -- an acknowledgement of text
    ack_text : (c : Connection) (numbers : List ℕ) → AtText speaker opened client c
        → AtText speaker opened client (with_part (m.acked numbers c.part c.len).part (rests c))
    ack_text c numbers h =
        let n : (m.acked numbers c.part c.len).part.acked ≡ c.part.acked + c.len = acked_is m speaker laws numbers c.part c.len h.here h.fits in
        let x : KeepsReceived speaker c.part (m.acked numbers c.part c.len).part = laws.acked numbers c.part c.len h.here in
        like_text c (with_part (m.acked numbers c.part c.len).part (rests c)) x.here x.input
        (laws.steady.acked_snapshots numbers c.part c.len) (omega (arith, n, h.count)) (omega (arith, n, h.fits)) h

    out_from : (c b : Connection) (d : Connection) (s : Step) → b.iss ≡ c.iss → b.part.snapshots ≡ c.part.snapshots → OutBy b d s → OutBy c d s
    out_from c b d (Step.Ask fresh) f k h = record {
      moved = record { iss = h.moved.iss ∙ f; more = h.moved.more; snapshots = h.moved.snapshots ∙ ap (λ l. l ++ h.moved.more) k; good = h.moved.good };
      is_asked = h.is_asked;
      idle = h.idle;
    }
    out_from c b d Step.Drop f k h = from_good c b (record { connection = d; sent = None }) [] f (k ∙ sym (append_nothing c.part.snapshots)) h
    out_from c b d Step.Ack f k h = from_good c b (record { connection = d; sent = Some (bare_ack d) }) [] f (k ∙ sym (append_nothing c.part.snapshots)) h
    out_from c b d (Step.SynAck again) f k h = from_good c b (record { connection = d; sent = Some (syn_ack d) }) [] f
        (k ∙ sym (append_nothing c.part.snapshots)) h
    out_from c b d (Step.Text again) f k h = from_good c b (record { connection = d; sent = Some (text_segment m d) }) [] f
        (k ∙ sym (append_nothing c.part.snapshots)) h
    out_from c b d (Step.Fin again) f k h = from_good c b (record { connection = d; sent = Some (fin_of d) }) [] f (k ∙ sym (append_nothing c.part.snapshots)) h
    out_from c b d Step.Reset f k h = from_good c b (record { connection = d; sent = Some (reset_of d) }) [] f (k ∙ sym (append_nothing c.part.snapshots)) h

    connects_good : (at_epoch : ℕ) (c : Connection) (numbers : List ℕ) (s : PlainSegment) → Steady client
        → ClientSent client opened at_epoch s → has_rst s.flags ≡ false → has_ack s.flags ≡ true →
        c.irs ≡ own_first client → AtSyn speaker c → (0 < length s.text → s.seq ≡ rcv_nxt c) → OutGood c (connects m c numbers s)
    connects_good at_epoch c numbers s steady output nr ac pf h e =
        let reported = is_data at_epoch s output nr ac in
        let start : AppState = (m.connected numbers c.sockets.own_port.0).part in
        let x = receives_is m speaker laws (m.connected numbers c.sockets.own_port.0).numbers start s.text
        (laws.connected_here numbers c.sockets.own_port.0 h.port) in
        let d : Connection = with_part (delivers_text m (m.connected numbers c.sockets.own_port.0).numbers start s.text).part
        (takes (length s.text) (in_state Established (rests c))) in
        let none : start.input ≡ [] = laws.connected_input numbers c.sockets.own_port.0 h.port in
        let part : IsPart client.request s.text 0 = sent_part at_epoch c s 0 steady output nr pf h.taken (omega arith) e in
        let begins : IsPrefixOf start.input client.request = subst (λ q. IsPrefixOf q client.request) (sym none)
        record { rest = client.request; joined = refl } in
        let acked : d.part.acked ≡ 0 = x.acked ∙ laws.steady.connected_acked numbers c.sockets.own_port.0 in
        let k : d.part.snapshots ≡ [] = x.snapshots ∙ laws.steady.connected_snapshots numbers c.sockets.own_port.0 in
        record {
          moved = turns c d refl (k ∙ sym h.snapshots) pf record {
            text = record {
              opened_is = reported.opened_is;
              here = x.some.here;
              input = received_prefix start d.part s.text begins (λ l. subst (λ n. IsPart client.request s.text n) (sym (ap length none)) part) x.some;
              fits = omega (arith, acked);
              count = omega (arith, acked, h.acked, h.len);
            };
            taken = λ l. (let y = received_whole start d.part s.text x.some l in omega (arith, h.taken, y.1, ap length none));
          };
          is_asked = refl;
          idle = refl;
        }

    by_state_good : (at_epoch : ℕ) (st : State) (acked : Bool) (c : Connection) (numbers : List ℕ) (s : PlainSegment) → Steady client
        → ClientSent client opened at_epoch s → has_rst s.flags ≡ false →
        c.state ≡ st → c.irs ≡ own_first client → StateGood speaker opened client c st → is_acked c s ≡ acked
        → (0 < length s.text → s.seq ≡ rcv_nxt c) → is_live st ≡ true →
        OutGood c (by_state m st acked c numbers s)
    unfolding fin_acked fin_waits
    by_state_good at_epoch Closed acked c numbers s steady output nr st pf h ac e lv = absurd (cc)
    by_state_good at_epoch SynRcvd true c numbers s steady output nr st pf h ac e lv = connects_good at_epoch c numbers s steady output nr
        (and_true _ _ ac).0 pf h e
    by_state_good at_epoch SynRcvd false c numbers s steady output nr st pf h ac e lv = move_silent c c
        (stays_good c record { irs = pf; state = state_at c SynRcvd st h })
    by_state_good at_epoch Established true c numbers s steady output nr st pf h ac e lv =
        let b : Connection = with_part (m.acked numbers c.part c.len).part (rests c) in
        let o : Outcome = in_established m true b (m.acked numbers c.part c.len).numbers s in
        out_from c b o.connection o.step refl (laws.steady.acked_snapshots numbers c.part c.len)
        (established_good at_epoch true b (m.acked numbers c.part c.len).numbers s steady output nr st pf
        record {
          text = ack_text c numbers h.text;
          taken = λ l. (let x = laws.acked numbers c.part c.len h.text.here in
              h.taken (sym x.lost ∙ l) ∙ ap length (sym x.input));
        } e)
    by_state_good at_epoch Established false c numbers s steady output nr st pf h ac e lv = established_good at_epoch false c numbers s
        steady output nr st pf h e
    by_state_good at_epoch CloseWait true c numbers s steady output nr st pf h ac e lv =
        let b : Connection = with_part (m.acked numbers c.part c.len).part (rests c) in
        let d : Connection = with_window s.window b in
        let t : AtText speaker opened client b = ack_text c numbers h in
        let u : AtText speaker opened client d = record { opened_is = t.opened_is; here = t.here; input = t.input; fits = t.fits; count = t.count } in
        record {
          moved = turns c d refl (laws.steady.acked_snapshots numbers c.part c.len) pf (state_at d CloseWait st u);
          is_asked = ap is_open st;
          idle = refl;
        }
    by_state_good at_epoch CloseWait false c numbers s steady output nr st pf h ac e lv =
        let d : Connection = with_window s.window c in
        let u : AtText speaker opened client d = record { opened_is = h.opened_is; here = h.here; input = h.input; fits = h.fits; count = h.count } in
        move_silent c d (turns c d refl refl pf (state_at d CloseWait st u))
    by_state_good at_epoch FinWait1 true c numbers s steady output nr st pf h ac e lv =
        choose (λ (o : Outcome). OutGood c o) (has_fin s.flags) _ _
        (λ f. let d : Connection = in_state TimeWait (takes (length s.text + 1) (rests c)) in
        move_sends c d (bare_ack d) (turns c d refl refl pf record { opened_is = h.opened_is; input = h.input }) (outputs_ack d refl))
        (λ f. let d : Connection = in_state FinWait2 (takes (length s.text) (rests c)) in
        move_silent c d (turns c d refl refl pf record { opened_is = h.opened_is; input = h.input }))
    by_state_good at_epoch FinWait1 false c numbers s steady output nr st pf h ac e lv =
        let g : ConnGood speaker opened client c = record { irs = pf; state = state_at c FinWait1 st h } in
        choose (λ (o : Outcome). OutGood c o) (has_fin s.flags) _ _
        (λ f. let d : Connection = in_state Closing (takes (length s.text + 1) c) in
        let a : AtFin speaker opened client d = record { opened_is = h.opened_is; ends = h.ends; count = h.count; input = h.input } in
        move_sends c d (bare_ack d) (turns c d refl refl pf a) (outputs_ack d refl))
        (λ f. choose (λ (o : Outcome). OutGood c o) (has_text s) _ _
        (λ i. let d : Connection = takes (length s.text) c in
        let a : AtFin speaker opened client d = record { opened_is = h.opened_is; ends = h.ends; count = h.count; input = h.input } in
        move_sends c d (bare_ack d) (turns c d refl refl pf (state_at d FinWait1 st a)) (outputs_ack d (ap is_live st)))
        (λ i. move_silent c c (stays_good c g)))
    by_state_good at_epoch FinWait2 acked c numbers s steady output nr st pf h ac e lv =
        choose (λ (o : Outcome). OutGood c o) (has_fin s.flags) _ _
        (λ f. let d : Connection = record (in_state TimeWait (takes (length s.text + 1) c)) { age = 0 } in
        move_sends c d (bare_ack d) (turns c d refl refl pf record { opened_is = h.opened_is; input = h.input }) (outputs_ack d refl))
        (λ f. choose (λ (o : Outcome). OutGood c o) (has_text s) _ _
        (λ i. let d : Connection = takes (length s.text) c in
        move_sends c d (bare_ack d) (turns c d refl refl pf (state_at d FinWait2 st record { opened_is = h.opened_is; input = h.input }))
        (outputs_ack d (ap is_live st)))
        (λ i. move_silent c c (stays_good c record { irs = pf; state = state_at c FinWait2 st h })))
    by_state_good at_epoch Closing true c numbers s steady output nr st pf h ac e lv =
        let d : Connection = in_state TimeWait (rests c) in move_silent c d (turns c d refl refl pf record { opened_is = h.opened_is; input = h.input })
    by_state_good at_epoch Closing false c numbers s steady output nr st pf h ac e lv = move_silent c c
        (stays_good c record { irs = pf; state = state_at c Closing st h })
    by_state_good at_epoch LastAck true c numbers s steady output nr st pf h ac e lv = move_silent c (closes (rests c)) (closes_good c (rests c) refl refl)
    by_state_good at_epoch LastAck false c numbers s steady output nr st pf h ac e lv = move_silent c c
        (stays_good c record { irs = pf; state = state_at c LastAck st h })
    by_state_good at_epoch TimeWait acked c numbers s steady output nr st pf h ac e lv =
        move_sends c c (bare_ack c) (stays_good c record { irs = pf; state = state_at c TimeWait st h }) (outputs_ack c (ap is_live st))

    -- a segment of its client
    pub on_segment_good : (at_epoch : ℕ) (c : Connection) (numbers : List ℕ) (s : PlainSegment) → Steady client
        → ClientSent client opened at_epoch s → ConnGood speaker opened client c → is_live c.state ≡ true →
        OutGood c (on_segment m c numbers s)
    unfolding on_segment
    on_segment_good at_epoch c numbers s steady output g lv =
        choose (λ (o : Outcome). OutGood c o) (has_rst s.flags) _ _
        (λ r. move_silent c (closes c) (closes_good c c refl refl))
        (λ r. choose (λ (o : Outcome). OutGood c o) (is_out_of_order c s) _ _
        (λ f. move_sends c c (bare_ack c) (stays_good c g) (outputs_ack c lv))
        (λ f. by_state_good at_epoch c.state (is_acked c s) c numbers s steady output r refl g.irs g.state refl (in_place s (rcv_nxt c) f) lv))

    -- the timer
    older : (c : Connection) (st : State) → StateGood speaker opened client c st → StateGood speaker opened client (grows_older c) st
    older c Closed h = tt
    older c SynRcvd h = record { port = h.port; taken = h.taken; len = h.len; snapshots = h.snapshots; acked = h.acked; input = h.input }
    older c Established h = record {
      text = record {
        opened_is = h.text.opened_is;
        here = h.text.here;
        input = h.text.input;
        fits = h.text.fits;
        count = h.text.count;
      };
      taken = h.taken;
    }
    older c CloseWait h = record { opened_is = h.opened_is; here = h.here; input = h.input; fits = h.fits; count = h.count }
    older c FinWait1 h = record { opened_is = h.opened_is; ends = h.ends; count = h.count; input = h.input }
    older c FinWait2 h = record { opened_is = h.opened_is; input = h.input }
    older c Closing h = record { opened_is = h.opened_is; ends = h.ends; count = h.count; input = h.input }
    older c TimeWait h = record { opened_is = h.opened_is; input = h.input }
    older c LastAck h = record { opened_is = h.opened_is; ends = h.ends; count = h.count; input = h.input }

    older_moved : (c : Connection) → ConnGood speaker opened client c → Moved speaker opened client c (grows_older c)
    older_moved c g = turns c (grows_older c) refl refl g.irs (older c c.state g.state)

    -- what is outstanding is sent again
    again_good : (c d : Connection) (st : State) → Moved speaker opened client c d → d.state ≡ st → StateGood speaker opened client d st
        → OutBy c d (outstanding true st)
    again_good c d Closed w e h = move_silent c d w
    again_good c d SynRcvd w e h = move_sends c d (syn_ack d) w (sends_syn d (ap is_live e) h.acked)
    again_good c d Established w e h = move_sends c d (text_segment m d) w (sends_text d (ap is_live e) h.text)
    again_good c d CloseWait w e h = move_sends c d (text_segment m d) w (sends_text d (ap is_live e) h)
    again_good c d FinWait1 w e h = move_sends c d (fin_of d) w (sends_fin d (ap is_live e) h)
    again_good c d FinWait2 w e h = move_silent c d w
    again_good c d Closing w e h = move_sends c d (fin_of d) w (sends_fin d (ap is_live e) h)
    again_good c d TimeWait w e h = move_silent c d w
    again_good c d LastAck w e h = move_sends c d (fin_of d) w (sends_fin d (ap is_live e) h)

    by_beat_good : (b : Beat) (c : Connection) (numbers : List ℕ) → ConnGood speaker opened client c → OutGood c (by_beat m b c numbers)
    by_beat_good Beat.Wait c numbers g = move_silent c (grows_older c) (older_moved c g)
    by_beat_good Beat.Again c numbers g = again_good c (grows_older c) c.state (older_moved c g) refl (older c c.state g.state)
    by_beat_good Beat.GiveUp c numbers g = move_sends c (closes c) (reset_of (closes c)) (closes_good c c refl refl) (sends_reset (closes c) (closes c))

    pub on_tick_good : (c : Connection) (numbers : List ℕ) → ConnGood speaker opened client c → OutGood c (on_tick m c numbers)
    on_tick_good c numbers g = on_tick_by m (λ o. OutGood c o) c numbers record {
      none = move_silent c c (stays_good c g);
      beats = λ r b. by_beat_good b c numbers g;
      rested = λ e. move_silent c (grows_older c) (older_moved c g);
      ends = move_silent c (closes c) (closes_good c c refl refl);
      polled = λ e z.
          (let h : AtOpen speaker opened client c = subst (λ st. StateGood speaker opened client c st) e g.state in
          let x : KeepsReceived speaker c.part (m.polled numbers c.part).part = laws.polled numbers c.part h.text.here in
          let a : (m.polled numbers c.part).part.acked ≡ c.part.acked = (laws.steady.lawful.polled_keeps numbers c.part tt).1 in
          let k : (m.polled numbers c.part).part.snapshots ≡ c.part.snapshots = laws.steady.polled_snapshots numbers c.part in
          let d : Connection = with_part (m.polled numbers c.part).part c in
          let t : AtText speaker opened client d = like_text c d x.here x.input k (omega (arith, h.text.count, a)) (omega (arith, h.text.fits, a)) h.text in
          record {
            moved = turns c d refl k g.irs (state_at d Established e record { text = t; taken = λ l. h.taken (sym x.lost ∙ l) ∙ ap length (sym x.input) });
            is_asked = ap is_open e;
            idle = z;
          });
    }
