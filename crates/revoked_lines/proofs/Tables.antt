-- A line and a table with the same texts.
use Rattle.std.proofs.Common.{◌≡◌, ◌∙◌, ℕ, Bool, true, false, ◌&&◌, List, Option, Some, None, Result, Ok, Err, ap, refl, sym, subst}
use Rattle.std.specs.Prelude.{if◌then◌else◌}
use Rattle.std.specs.Option.{ok_or, option_and_then, option_map}
use Rattle.rcgen_text.specs.declared.revocation_reason.RevocationReason.{RevocationReason}
use Rattle.toml_format.specs.Hex.{from_hex}
use Rattle.toml_format.specs.Outcome.{both, mapped}
use Rattle.toml_format.specs.Outcome.{and_then as then_read_on}
use Rattle.toml_format.specs.RevocationList.{revocation_reason, revoked, revoked_of, revoked_values}
use Rattle.toml_format.specs.TableReading.{closed, read_checked, read_fields, read_none, read_optional, read_required, read_table, then_read}
use Rattle.toml_format.specs.Tables.{table_of}
use Rattle.toml_format.specs.TimeText.{TimestampView, date_time}
use Rattle.toml_format.specs.ValueReading.{read_text, read_text_as}
use Rattle.toml_format.specs.declared.reason.Reason.{Reason}
use Rattle.toml_format.specs.declared.reason.Reason.TheVariants.{WrongValue}
use Rattle.toml_format.specs.declared.revocation_list.Revoked.{Revoked}
use Rattle.shelf_profile.specs.RevocationList.{is_entry, is_reason}
use Rattle.shelf_profile.specs.Serial.{is_serial, serial, serial_if}
use Rattle.shelf_fault.specs.Faults.{and_then, some_or}
use Rattle.shelf_fault.specs.declared.fault.Fault.{Fault}
use Rattle.shelf_fault.specs.declared.fault.Fault.TheVariants.{RevokedLine}
use Rattle.shelf_fault.specs.declared.fault.LineFault.TheVariants.{Invalid as NoInvalid, Reason as NoReason, Serial as NoSerial, Time as NoTime}
use Rattle.revoked_lines.specs.Lines.{WordsView, entry_of, entry_reason, if_allowed, invalid_in, is_dash, reason_in, serial_in, time_in}
use Rattle.revoked_lines.specs.Tables.{LinesAreTables, given_reason, table_with, texts_table}

abbrev from_some : {A : Type 0} → A → Option A → A
from_some default (Some x) = x
from_some default None = default

some_is : {A : Type 0} (x y : A) → Some x ≡ Some y → x ≡ y
some_is x y h = ap (from_some x) h

-- ---- what a table says, by what its texts are read as

abbrev read_as : {A : Type 0} → Option A → Result A Reason
read_as o = ok_or o WrongValue

abbrev optional_as : {A : Type 0} → (List ℕ → Option A) → Option (List ℕ) → Result (Option A) Reason
optional_as f None = Ok None
optional_as f (Some text) = mapped (read_as (f text)) Some

abbrev nothing : Result (Unit {0}) Reason
nothing = Ok tt

abbrev said : Option (List ℕ) → Option TimestampView → Result (Option RevocationReason) Reason → Result (Option TimestampView) Reason → Result Revoked Reason
said hex time reason invalid =
    mapped (both (then_read_on (both (both (both (both nothing (read_as hex)) (read_as time)) reason) invalid) revoked_of) nothing) (λ x. x.0)

table_says : (s t : List ℕ) (r i : Option (List ℕ))
    → (table_of revoked).read (texts_table s t r i) ≡ said (from_hex s) (date_time t) (optional_as revocation_reason r) (optional_as date_time i)
unfolding read_table closed read_fields read_checked then_read read_none read_required read_optional read_text_as read_text revoked_values
table_says s t None None = refl
table_says s t None (Some i) = refl
table_says s t (Some r) None = refl
table_says s t (Some r) (Some i) = refl

abbrev from_ok : {A E : Type 0} → A → Result A E → A
from_ok default (Ok x) = x
from_ok default (Err e) = default

ok_is : {A E : Type 0} (x y : A) → ◌≡◌ {A = Result A E} (Ok x) (Ok y) → x ≡ y
ok_is x y h = ap (from_ok x) h

-- a table says an entry where each text is read as its part
record Said (hex : Option (List ℕ)) (time : Option TimestampView) (reason : Result (Option RevocationReason) Reason)
    (invalid : Result (Option TimestampView) Reason) (e : Revoked) : Type 0 where
  serial_is : hex ≡ Some e.serial
  time_is : time ≡ Some e.time
  reason_is : reason ≡ Ok e.reason
  invalid_is : invalid ≡ Ok e.invalid

parts_of_said : (hex : Option (List ℕ)) (time : Option TimestampView) (reason : Result (Option RevocationReason) Reason)
    (invalid : Result (Option TimestampView) Reason) (e : Revoked) → said hex time reason invalid ≡ Ok e → Said hex time reason invalid e
unfolding both revoked_of
parts_of_said (Some s) (Some t) (Ok r) (Ok i) e h =
    let same = ok_is (record { serial = s; time = t; reason = r; invalid = i }) e h in
    record {
      serial_is = ap (λ (x : Revoked). Some x.serial) same;
      time_is = ap (λ (x : Revoked). Some x.time) same;
      reason_is = ap (λ (x : Revoked). Ok x.reason) same;
      invalid_is = ap (λ (x : Revoked). Ok x.invalid) same;
    }
parts_of_said None None (Ok r) (Ok i) e h = absurd cc
parts_of_said None None (Ok r) (Err b) e h = absurd cc
parts_of_said None None (Err a) (Ok i) e h = absurd cc
parts_of_said None None (Err a) (Err b) e h = absurd cc
parts_of_said None (Some t) (Ok r) (Ok i) e h = absurd cc
parts_of_said None (Some t) (Ok r) (Err b) e h = absurd cc
parts_of_said None (Some t) (Err a) (Ok i) e h = absurd cc
parts_of_said None (Some t) (Err a) (Err b) e h = absurd cc
parts_of_said (Some s) None (Ok r) (Ok i) e h = absurd cc
parts_of_said (Some s) None (Ok r) (Err b) e h = absurd cc
parts_of_said (Some s) None (Err a) (Ok i) e h = absurd cc
parts_of_said (Some s) None (Err a) (Err b) e h = absurd cc
parts_of_said (Some s) (Some t) (Ok r) (Err b) e h = absurd cc
parts_of_said (Some s) (Some t) (Err a) (Ok i) e h = absurd cc
parts_of_said (Some s) (Some t) (Err a) (Err b) e h = absurd cc

said_of_parts : (hex : Option (List ℕ)) (time : Option TimestampView) (reason : Result (Option RevocationReason) Reason)
    (invalid : Result (Option TimestampView) Reason) (e : Revoked) → Said hex time reason invalid e → said hex time reason invalid ≡ Ok e
unfolding both revoked_of
said_of_parts hex time reason invalid e p = λ i. said (p.serial_is i) (p.time_is i) (p.reason_is i) (p.invalid_is i)

-- ---- what a line says, likewise

abbrev joined : Result (List ℕ) Fault → Result TimestampView Fault → Result (Option RevocationReason) Fault → Result (Option TimestampView) Fault
    → Result Revoked Fault
joined serial time reason invalid =
    and_then serial (λ s. and_then time (λ t. and_then reason (λ r. and_then invalid (λ i.
    Ok (record { serial = s; time = t; reason = r; invalid = i })))))

record Lined (serial : Result (List ℕ) Fault) (time : Result TimestampView Fault) (reason : Result (Option RevocationReason) Fault)
    (invalid : Result (Option TimestampView) Fault) (e : Revoked) : Type 0 where
  serial_is : serial ≡ Ok e.serial
  time_is : time ≡ Ok e.time
  reason_is : reason ≡ Ok e.reason
  invalid_is : invalid ≡ Ok e.invalid

parts_of_lined : (serial : Result (List ℕ) Fault) (time : Result TimestampView Fault) (reason : Result (Option RevocationReason) Fault)
    (invalid : Result (Option TimestampView) Fault) (e : Revoked) → joined serial time reason invalid ≡ Ok e → Lined serial time reason invalid e
parts_of_lined (Ok s) (Ok t) (Ok r) (Ok i) e h =
    let same = ok_is (record { serial = s; time = t; reason = r; invalid = i }) e h in
    record {
      serial_is = ap (λ (x : Revoked). Ok x.serial) same;
      time_is = ap (λ (x : Revoked). Ok x.time) same;
      reason_is = ap (λ (x : Revoked). Ok x.reason) same;
      invalid_is = ap (λ (x : Revoked). Ok x.invalid) same;
    }
parts_of_lined (Err a) time reason invalid e h = absurd cc
parts_of_lined (Ok s) (Err a) reason invalid e h = absurd cc
parts_of_lined (Ok s) (Ok t) (Err a) invalid e h = absurd cc
parts_of_lined (Ok s) (Ok t) (Ok r) (Err a) e h = absurd cc

lined_of_parts : (serial : Result (List ℕ) Fault) (time : Result TimestampView Fault) (reason : Result (Option RevocationReason) Fault)
    (invalid : Result (Option TimestampView) Fault) (e : Revoked) → Lined serial time reason invalid e → joined serial time reason invalid ≡ Ok e
lined_of_parts serial time reason invalid e p = λ i. joined (p.serial_is i) (p.time_is i) (p.reason_is i) (p.invalid_is i)

-- ---- part by part

some_read : {A : Type 0} (o : Option A) (f : Fault) (x : A) → some_or o f ≡ Ok x → o ≡ Some x
some_read (Some y) f x h = ap Some (ok_is y x h)
some_read None f x h = absurd cc

serial_parts : (hex : Option (List ℕ)) (s : List ℕ) → serial_if hex ≡ Some s → (hex ≡ Some s) × (is_serial s ≡ true)
serial_parts None s h = absurd cc
serial_parts (Some octets) s h = by_test (is_serial octets) refl h where
  by_test : (b : Bool) → is_serial octets ≡ b → (if b then Some octets else None) ≡ Some s → (Some octets ≡ Some s) × (is_serial s ≡ true)
  by_test true e k = (k, subst (λ (o : List ℕ). is_serial o ≡ true) (some_is octets s k) e)
  by_test false e k = absurd cc

serial_back : (hex : Option (List ℕ)) (s : List ℕ) → hex ≡ Some s → is_serial s ≡ true → serial_if hex ≡ Some s
serial_back hex s h t = ap serial_if h ∙ ap (λ (b : Bool). if b then Some s else None) t

given_is : (b : Bool) (f : List ℕ → Option RevocationReason) (word : List ℕ)
    → optional_as f (if b then None else Some word) ≡ (if b then Ok None else mapped (read_as (f word)) Some)
given_is true f word = refl
given_is false f word = refl

-- the reason of an entry, if one may have it
abbrev Entry : Bool → Option RevocationReason → Type 0
Entry d x = is_reason d x ≡ true

reason_there : (d : Bool) (r : RevocationReason) (q : Bool) (f : Fault) (x : Option RevocationReason) → is_reason d (Some r) ≡ q
    → some_or (option_map Some (if q then Some r else None)) f ≡ Ok x → (◌≡◌ {A = Result (Option RevocationReason) Reason} (Ok (Some r)) (Ok x)) × Entry d x
reason_there d r false f x e h = absurd cc
reason_there d r true f x e h =
    let same = ok_is (Some r) x h in (ap (λ (o : Option RevocationReason). Ok o) same, subst (Entry d) same e)

reason_back : (d : Bool) (r : RevocationReason) (q : Bool) (f : Fault) (x : Option RevocationReason) → is_reason d (Some r) ≡ q
    → ◌≡◌ {A = Result (Option RevocationReason) Reason} (Ok (Some r)) (Ok x) → Entry d x → some_or (option_map Some (if q then Some r else None)) f ≡ Ok x
reason_back d r false f x e h n = absurd (let same = ok_is (Some r) x h in let a : is_reason d (Some r) ≡ true = subst (Entry d) (sym same) n in cc)
reason_back d r true f x e h n = ap (λ (o : Option RevocationReason). Ok o) (ok_is (Some r) x h)

word_there : (d b : Bool) (o : Option RevocationReason) (f : Fault) (x : Option RevocationReason)
    → (if b then Ok None else some_or (option_map Some (option_and_then (if_allowed d) o)) f) ≡ Ok x
    → ((if b then Ok None else mapped (read_as o) Some) ≡ Ok x) × Entry d x
word_there d true o f x h =
    let same = ok_is None x h in (ap (λ (y : Option RevocationReason). Ok y) same, subst (Entry d) same refl)
word_there d false None f x h = absurd cc
word_there d false (Some r) f x h = reason_there d r (is_reason d (Some r)) f x refl h

word_back : (d b : Bool) (o : Option RevocationReason) (f : Fault) (x : Option RevocationReason)
    → (if b then Ok None else mapped (read_as o) Some) ≡ Ok x → Entry d x
    → (if b then Ok None else some_or (option_map Some (option_and_then (if_allowed d) o)) f) ≡ Ok x
word_back d true o f x h n = ap (λ (y : Option RevocationReason). Ok y) (ok_is None x h)
word_back d false None f x h n = absurd cc
word_back d false (Some r) f x h n = reason_back d r (is_reason d (Some r)) f x refl h n

reasons_there : (d : Bool) (n : ℕ) (word : Option (List ℕ)) (x : Option RevocationReason) → reason_in d n word ≡ Ok x
    → (optional_as revocation_reason (given_reason word) ≡ Ok x) × Entry d x
unfolding reason_in entry_reason
reasons_there d n None x h =
    let same = ok_is None x h in (ap (λ (y : Option RevocationReason). Ok y) same, subst (Entry d) same refl)
reasons_there d n (Some word) x h =
    let k = word_there d (is_dash word) (revocation_reason word) (RevokedLine n NoReason) x h in
    (given_is (is_dash word) revocation_reason word ∙ k.0, k.1)

reasons_back : (d : Bool) (n : ℕ) (word : Option (List ℕ)) (x : Option RevocationReason)
    → optional_as revocation_reason (given_reason word) ≡ Ok x → Entry d x → reason_in d n word ≡ Ok x
unfolding reason_in entry_reason
reasons_back d n None x h e = ap (λ (y : Option RevocationReason). Ok y) (ok_is None x h)
reasons_back d n (Some word) x h e =
    word_back d (is_dash word) (revocation_reason word) (RevokedLine n NoReason) x (sym (given_is (is_dash word) revocation_reason word) ∙ h) e

time_there : (o : Option TimestampView) (f : Fault) (x : Option TimestampView) → some_or (option_map Some o) f ≡ Ok x → mapped (read_as o) Some ≡ Ok x
time_there None f x h = absurd cc
time_there (Some t) f x h = ap (λ (y : Option TimestampView). Ok y) (ok_is (Some t) x h)

time_back : (o : Option TimestampView) (f : Fault) (x : Option TimestampView) → mapped (read_as o) Some ≡ Ok x → some_or (option_map Some o) f ≡ Ok x
time_back None f x h = absurd cc
time_back (Some t) f x h = ap (λ (y : Option TimestampView). Ok y) (ok_is (Some t) x h)

invalids_there : (n : ℕ) (word : Option (List ℕ)) (x : Option TimestampView) → invalid_in n word ≡ Ok x → optional_as date_time word ≡ Ok x
unfolding invalid_in
invalids_there n None x h = ap (λ (y : Option TimestampView). Ok y) (ok_is None x h)
invalids_there n (Some word) x h = time_there (date_time word) (RevokedLine n NoInvalid) x h

invalids_back : (n : ℕ) (word : Option (List ℕ)) (x : Option TimestampView) → optional_as date_time word ≡ Ok x → invalid_in n word ≡ Ok x
unfolding invalid_in
invalids_back n None x h = ap (λ (y : Option TimestampView). Ok y) (ok_is None x h)
invalids_back n (Some word) x h = time_back (date_time word) (RevokedLine n NoInvalid) x h

entry_tests : (a b : Bool) → a ≡ true → b ≡ true → (a && b) ≡ true
entry_tests a b h k = ap (λ (x : Bool). x && b) h ∙ k

tests_of_entry : (a b : Bool) → (a && b) ≡ true → (a ≡ true) × (b ≡ true)
tests_of_entry true b h = (refl, h)
tests_of_entry false b h = absurd cc

there : (d : Bool) (n : ℕ) (w : WordsView) (e : Revoked) → entry_of d n w ≡ Ok e
    → ((table_of revoked).read (table_with w) ≡ Ok e) × (is_entry d e ≡ true)
unfolding entry_of serial_in time_in serial
there d n w e h =
    let p = parts_of_lined (serial_in n w.serial) (time_in n w.time) (reason_in d n w.reason) (invalid_in n w.invalid) e h in
    let s = serial_parts (from_hex w.serial) e.serial (some_read (serial w.serial) (RevokedLine n NoSerial) e.serial p.serial_is) in
    let r = reasons_there d n w.reason e.reason p.reason_is in (
      table_says w.serial w.time (given_reason w.reason) w.invalid
          ∙ said_of_parts (from_hex w.serial) (date_time w.time) (optional_as revocation_reason (given_reason w.reason)) (optional_as date_time w.invalid) e
          (record {
            serial_is = s.0;
            time_is = some_read (date_time w.time) (RevokedLine n NoTime) e.time p.time_is;
            reason_is = r.0;
            invalid_is = invalids_there n w.invalid e.invalid p.invalid_is;
          }),
      entry_tests (is_serial e.serial) (is_reason d e.reason) s.1 r.1,
    )

back : (d : Bool) (n : ℕ) (w : WordsView) (e : Revoked) → (table_of revoked).read (table_with w) ≡ Ok e → is_entry d e ≡ true
    → entry_of d n w ≡ Ok e
unfolding entry_of serial_in time_in serial
back d n w e h t =
    let p = parts_of_said (from_hex w.serial) (date_time w.time) (optional_as revocation_reason (given_reason w.reason)) (optional_as date_time w.invalid) e
    (sym (table_says w.serial w.time (given_reason w.reason) w.invalid) ∙ h) in
    let tests = tests_of_entry (is_serial e.serial) (is_reason d e.reason) t in
    lined_of_parts (serial_in n w.serial) (time_in n w.time) (reason_in d n w.reason) (invalid_in n w.invalid) e
    (record {
      serial_is = ap (λ (o : Option (List ℕ)). some_or o (RevokedLine n NoSerial)) (serial_back (from_hex w.serial) e.serial p.serial_is tests.0);
      time_is = ap (λ (o : Option TimestampView). some_or o (RevokedLine n NoTime)) p.time_is;
      reason_is = reasons_back d n w.reason e.reason p.reason_is tests.1;
      invalid_is = invalids_back n w.invalid e.invalid p.invalid_is;
    })

pub lines_are_tables : LinesAreTables
lines_are_tables d n w e = (there d n w e, λ h. back d n w e h.0 h.1)
