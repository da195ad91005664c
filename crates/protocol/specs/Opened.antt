-- Open: what an open end reads, delivers, takes and sends. Assumes nothing.
use Rattle.std.specs.Prelude.{Bool, true, false, cond, not, ◌&&◌, ◌||◌, ℕ, ◌+◌, ◌*◌, ◌-◌, ◌/◌, eqb, ltb, Option, Some, None}
use Rattle.std.specs.Bool.{beq}
use Rattle.book.specs.declared.Entry.{Entry}
use Rattle.channel.specs.declared.byte.Leads.{Leads}
use Rattle.channel.specs.declared.kind.Kind.{Kind}
use Rattle.channel.specs.declared.kind.Kind.TheVariants.{Sgvi, Sgp, Sgr, Dl, Dh, Sd, Other}
use Rattle.channel.specs.declared.unit.Form.{Form}
use Rattle.channel.specs.declared.unit.Form.TheVariants.{Six, SevenV1, SevenV2, Eight}
use Rattle.channel.specs.Bytes.{sd_byte, dl_byte, dh_byte}
use Rattle.channel.specs.Kinds.{kind_of}
use Rattle.channel.specs.Forms.{units_of, unit_in, is_data, fits, word_fits, word_of}
use Rattle.protocol.specs.Sent.{Sent, Alone, Unit}
use Rattle.protocol.specs.declared.Shape.{Shape}
use Rattle.protocol.specs.declared.Shape.TheVariants as shape
use Rattle.protocol.specs.declared.Signals.{Signals}
use Rattle.protocol.specs.declared.Claim.{Claim}
use Rattle.protocol.specs.declared.Claim.TheVariants.{Free, Second, Owed}
use Rattle.protocol.specs.declared.Outbound.{Outbound}
use Rattle.protocol.specs.declared.Inbound.{Inbound}
use Rattle.protocol.specs.declared.Line.{Line}
use Rattle.protocol.specs.declared.Drive.{Drive}

-- how an entry's data is laid on a version
unfoldable pub shape_of : Entry → ℕ → Shape
shape_of e version =
    cond (eqb e.form 0) (shape.Word e.w)
    (cond (eqb e.form 6) (shape.Unit Six)
    (cond (eqb e.form 7) (cond (eqb version 1) (shape.Unit SevenV1) (shape.Unit SevenV2))
    (shape.Unit Eight)))

-- the shape has that unit
unfoldable pub has_unit : Shape → ℕ → Bool
has_unit (shape.Word w) u = word_fits w u
has_unit (shape.Unit f) u = fits f u

abbrev pub is_word : Shape → Bool
is_word (shape.Word w) = true
is_word (shape.Unit f) = false

-- forms 7 and 8 have the pair 05 0D after the first 16 bytes
abbrev pub pair_form : Form → Bool
pair_form Six = false
pair_form SevenV1 = true
pair_form SevenV2 = true
pair_form Eight = true

abbrev pub has_pair : Shape → Bool
has_pair (shape.Word w) = false
has_pair (shape.Unit f) = pair_form f

-- the first 16 bytes sent are Sd; in forms 7 and 8 the pair follows
abbrev pub opening_sd : ℕ
opening_sd = 16

abbrev pub opening_bytes : Shape → ℕ
opening_bytes s = cond (has_pair s) (opening_sd + 2) opening_sd

-- the leads of Sdidle: s2 alone is on
abbrev pub idle_leads : Leads
idle_leads = record { s0 = false; s1 = false; s2 = true; s3 = false }

abbrev pub idle_signals : Signals
idle_signals = record { leads = idle_leads; bk = false }

-- the sending half and the receiving half, put together
abbrev pub outbound_of : ℕ → Option ℕ → Claim → (last before : Signals) → Outbound
outbound_of opening due claim last before = record { opening = opening; due = due; claim = claim; last = last; before = before }

abbrev pub inbound_of : Option ℕ → ℕ → (last standing : Signals) → Inbound
inbound_of half pair last standing = record { half = half; pair = pair; last = last; standing = standing }

-- at the opening nothing has gone, and it is as if two Sdidle had gone and two had come
unfoldable pub fresh_line : Line
fresh_line = record { outbound = outbound_of 0 None Free idle_signals idle_signals; inbound = inbound_of None 0 idle_signals idle_signals }

-- Receiving.

-- a lead, or BK, takes a new value when the last two Sd received agree on it
abbrev pub agreed : Bool → Bool → Bool → Bool
agreed last now standing = cond (beq last now) now standing

unfoldable pub agreed_signals : Signals → Signals → Signals → Signals
agreed_signals last now standing =
    record {
      leads =
          record {
            s0 = agreed last.leads.s0 now.leads.s0 standing.leads.s0;
            s1 = agreed last.leads.s1 now.leads.s1 standing.leads.s1;
            s2 = agreed last.leads.s2 now.leads.s2 standing.leads.s2;
            s3 = agreed last.leads.s3 now.leads.s3 standing.leads.s3;
          };
      bk = agreed last.bk now.bk standing.bk;
    }

-- what a received byte makes of the receiving half, and what it delivers
pub record Reading : Type 0 where
  pub inbound : Inbound
  pub delivered : Option ℕ

abbrev pub reads : Inbound → Option ℕ → ℕ → Option ℕ → Reading
reads i half pair d = record { inbound = inbound_of half pair i.last i.standing; delivered = d }

-- an Sd drops the half, and the first byte of a pair
abbrev pub reads_sd : Inbound → Leads → Bool → Reading
reads_sd i leads bk =
    let now : Signals = record { leads = leads; bk = bk } in
    record { inbound = inbound_of None 0 now (agreed_signals i.last now i.standing); delivered = None }

abbrev pub quiet : Inbound → Reading
quiet i = reads i None 0 None

-- a DL then at once a DH delivers a word
abbrev pub word_with : ℕ → Option ℕ → ℕ → Option ℕ
word_with w None high = None
word_with w (Some low) high = Some (word_of w low high)

-- form 0: anything else drops the half; while BK stands on, data is ignored
unfoldable pub reads_word : ℕ → Inbound → Kind → Reading
reads_word w i (Dl x) = cond i.standing.bk (quiet i) (reads i (Some x) 0 None)
reads_word w i (Dh x) = cond i.standing.bk (quiet i) (reads i None 0 (word_with w i.half x))
reads_word w i (Sd s bk) = reads_sd i s bk
reads_word w i Sgvi = quiet i
reads_word w i (Sgp k) = quiet i
reads_word w i Sgr = quiet i
reads_word w i Other = quiet i

-- form 6: a byte with B7 0 delivers; else it may be an Sd
abbrev pub reads_idle : Inbound → Kind → Reading
reads_idle i (Dl x) = quiet i
reads_idle i (Dh x) = quiet i
reads_idle i (Sd s bk) = reads_sd i s bk
reads_idle i Sgvi = quiet i
reads_idle i (Sgp k) = quiet i
reads_idle i Sgr = quiet i
reads_idle i Other = quiet i

unfoldable pub reads_six : Inbound → ℕ → Reading
reads_six i b = cond (is_data Six b) (reads i None 0 (Some (unit_in Six b))) (reads_idle i (kind_of b))

-- forms 7 and 8: the pair is a DL and at once a DH, both with no bit on
abbrev pub reads_pair : Inbound → Kind → Reading
reads_pair i (Dl x) = reads i None (cond (eqb x 0) 1 0) None
reads_pair i (Dh x) = reads i None (cond (eqb x 0 && eqb i.pair 1) 2 0) None
reads_pair i (Sd s bk) = reads_sd i s bk
reads_pair i Sgvi = quiet i
reads_pair i (Sgp k) = quiet i
reads_pair i Sgr = quiet i
reads_pair i Other = quiet i

-- they deliver every byte after the first received pair
unfoldable pub reads_stream : Form → Inbound → ℕ → Reading
reads_stream f i b = cond (eqb i.pair 2) (reads i None 2 (Some (unit_in f b))) (reads_pair i (kind_of b))

abbrev pub reads_form : Form → Inbound → ℕ → Reading
reads_form Six i b = reads_six i b
reads_form SevenV1 i b = reads_stream SevenV1 i b
reads_form SevenV2 i b = reads_stream SevenV2 i b
reads_form Eight i b = reads_stream Eight i b

unfoldable pub reading : Shape → Inbound → ℕ → Reading
reading (shape.Word w) i b = reads_word w i (kind_of b)
reading (shape.Unit f) i b = reads_form f i b

-- Sending.

-- what a slot is given besides the received byte, put together
abbrev pub drive_with : Leads → Bool → Option ℕ → Drive
drive_with leads flag offer = record { leads = leads; flag = flag; offer = offer }

-- what is sent, whether the offered unit is taken, and what becomes of the sending half
pub record Writing : Type 0 where
  pub outbound : Outbound
  pub sent : Sent
  pub taken : Bool

-- BK is the break flag in form 0, else 0
abbrev pub bk_sent : Shape → Drive → Bool
bk_sent s g = is_word s && g.flag

-- an Sd with certain leads: of the last two Sd sent it is the last from now on
abbrev pub writes_sd : Shape → Outbound → ℕ → Claim → Leads → Drive → Writing
writes_sd s o opening claim leads g =
    record {
      outbound = outbound_of opening None claim (record { leads = leads; bk = bk_sent s g }) o.last;
      sent = Alone (sd_byte leads (bk_sent s g));
      taken = false;
    }

-- a byte that is no Sd: nobody has a claim on the line after it
abbrev pub writes : Outbound → ℕ → Option ℕ → Sent → Bool → Writing
writes o opening due sent taken = record { outbound = outbound_of opening due Free o.last o.before; sent = sent; taken = taken }

-- the first bytes: 16 Sd with the leads given, then in forms 7 and 8 the pair 05 0D
unfoldable pub writes_opening : Shape → Outbound → Drive → Writing
writes_opening s o g =
    cond (ltb o.opening opening_sd) (writes_sd s o (o.opening + 1) Free g.leads g)
    (writes o (o.opening + 1) None (Alone (cond (eqb o.opening opening_sd) 0x05 0x0D)) false)

-- After the first bytes, in forms 0 and 6 the first of six rules that applies; they stand here from the last to the first.

-- 6: an Sd with the leads given; who has a claim on the line keeps it
abbrev pub writes_given : Shape → Outbound → Drive → Writing
writes_given s o g = writes_sd s o o.opening o.claim g.leads g

-- 5: an offered unit is taken, and none is owed the line any more; in form 0 its DH is due then
abbrev pub writes_word : ℕ → Outbound → Drive → Option ℕ → Writing
writes_word w o g None = writes_given (shape.Word w) o g
writes_word w o g (Some u) = writes o o.opening (Some (u / 16)) (Alone (dl_byte u)) true

-- forms 6, 7 and 8; with none taken form 6 sends Sd, forms 7 and 8 the unit of all ones
abbrev pub writes_unit : Form → Outbound → Drive → Option ℕ → Writing
writes_unit f o g (Some u) = writes o o.opening None (Unit f u) true
writes_unit f o g None =
    cond (pair_form f) (writes o o.opening None (Unit f (units_of f - 1)) false) (writes_given (shape.Unit f) o g)

abbrev pub writes_offer : Shape → Outbound → Drive → Option ℕ → Writing
writes_offer (shape.Word w) o g x = writes_word w o g x
writes_offer (shape.Unit f) o g x = writes_unit f o g x

-- the leads given differ from those in either of the last two Sd sent
abbrev pub same_leads : Leads → Leads → Bool
same_leads a b = beq a.s0 b.s0 && beq a.s1 b.s1 && beq a.s2 b.s2 && beq a.s3 b.s3

abbrev pub changed : Leads → Outbound → Bool
changed leads o = not (same_leads leads o.last.leads && same_leads leads o.before.leads)

-- 3: a second Sd due repeats the leads of the first of the two; after it one offered unit is owed the line
-- 4: no unit is owed the line, and the leads differ so: an Sd with the leads given, and a second is due, whether or not a unit is offered
abbrev pub writes_claim : Shape → Outbound → Drive → Claim → Writing
writes_claim s o g (Second leads) = writes_sd s o o.opening Owed leads g
writes_claim s o g Owed = writes_offer s o g g.offer
writes_claim s o g Free =
    cond (changed g.leads o) (writes_sd s o o.opening (Second g.leads) g.leads g) (writes_offer s o g g.offer)

-- 2, form 0, the break rule: while the flag is on, or BK of either of the last two Sd sent was on, an Sd with the leads and flag given
abbrev pub held : (flag bk1 bk2 : Bool) → Bool
held flag bk1 bk2 = flag || (bk1 || bk2)

-- 1, form 0: a DH due
abbrev pub writes_due : ℕ → Outbound → Drive → Option ℕ → Writing
writes_due w o g (Some high) = writes o o.opening None (Alone (dh_byte (16 * high))) false
writes_due w o g None =
    cond (held g.flag o.last.bk o.before.bk) (writes_given (shape.Word w) o g) (writes_claim (shape.Word w) o g o.claim)

-- in forms 7 and 8 leads claim nothing: a unit is taken, or the unit of all ones goes
unfoldable pub writes_data : Shape → Outbound → Drive → Writing
writes_data (shape.Word w) o g = writes_due w o g o.due
writes_data (shape.Unit f) o g = cond (pair_form f) (writes_unit f o g g.offer) (writes_claim (shape.Unit f) o g o.claim)

unfoldable pub writing : Shape → Outbound → Drive → Writing
writing s o g = cond (ltb o.opening (opening_bytes s)) (writes_opening s o g) (writes_data s o g)
