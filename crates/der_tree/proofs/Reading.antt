-- Steps of reading, one field at a time.
use Rattle.std.specs.Prelude.{◌≡◌, List, Option, Some, None, Result, Err, IsErrAnd}
use Rattle.der_tree.specs.Element.{Element}
use Rattle.std.proofs.Common.{sym, ap, ◌∙◌, subst}
use Rattle.std.proofs.lemmas.Result.{err_from_is_err_and}
use Rattle.der_tree.specs.declared.error.DecodeError.{DecodeError}
use Rattle.der_tree.specs.declared.error.DecodeError.TheVariants.{NotInGrammar, OutOfMemory}
use Rattle.asn1_core.specs.Binds.{◌>>=◌}
use Rattle.der_tree.specs.Windows.{Decodes, Reads}

pub goes : {A B : Type 0} (o : Option A) (k : A → Option B) (x : A) (r : Result B DecodeError) → o ≡ Some x → Decodes r (k x) → Decodes r (o >>= k)
goes {A} {B} o k x r e d = subst (λ (p : Option A). Decodes r (p >>= k)) (sym e) d

stops_at : {A B : Type 0} (o : Option A) (k : A → Option B) (d : DecodeError) → Decodes (Err d) o → Decodes (Err d) (o >>= k)
stops_at {A} {B} o k NotInGrammar h = ap (λ (p : Option A). p >>= k) h
stops_at o k OutOfMemory h = tt

pub stops : {A B : Type 0} (o : Option A) (k : A → Option B) (d : DecodeError) (r : Result B DecodeError) → Decodes (Err d) o → IsErrAnd r (λ e. e ≡ d) → Decodes r (o >>= k)
stops {A} {B} o k d r h p =
    let q = err_from_is_err_and r p in
    subst (λ (r : Result B DecodeError). Decodes r (o >>= k)) (sym q.1) (subst (λ (e : DecodeError). Decodes (Err e) (o >>= k)) (sym q.2) (stops_at o k d h))

err_same : {B : Type 0} (x y : DecodeError) → ◌≡◌ {A = Result B DecodeError} (Err x) (Err y) → x ≡ y
err_same x y e = cc

pub err_is : {B : Type 0} (r : Result B DecodeError) (d x : DecodeError) → IsErrAnd r (λ e. e ≡ d) → r ≡ Err x → d ≡ x
err_is r d x p e = let q = err_from_is_err_and r p in sym q.2 ∙ err_same q.0 x (sym q.1 ∙ e)

pub err_none : {A B : Type 0} (r : Result B DecodeError) (d : DecodeError) (o : Option A) → Decodes (Err d) o → IsErrAnd r (λ e. e ≡ d) → r ≡ Err NotInGrammar → o ≡ None
err_none {A} r d o h p e = let k : Decodes (Err NotInGrammar) o = subst (λ (x : DecodeError). Decodes (Err x) o) (err_is r d NotInGrammar p e) h in k

stops_reading_at : {A B : Type 0} (o : Option (A × List Element)) (k : A × List Element → Option B) (d : DecodeError) (rest : List Element) → Reads (Err d) rest o → Decodes (Err d) (o >>= k)
stops_reading_at {A} {B} o k NotInGrammar rest h = ap (λ (p : Option (A × List Element)). p >>= k) h
stops_reading_at o k OutOfMemory rest h = tt

-- the same at a field that wasn't read
pub stops_reading : {A B : Type 0} (o : Option (A × List Element)) (k : A × List Element → Option B) (d : DecodeError) (rest : List Element) (r : Result B DecodeError) → Reads (Err d) rest o → IsErrAnd r (λ e. e ≡ d) → Decodes r (o >>= k)
stops_reading {A} {B} o k d rest r h p =
    let q = err_from_is_err_and r p in
    subst (λ (r : Result B DecodeError). Decodes r (o >>= k)) (sym q.1) (subst (λ (e : DecodeError). Decodes (Err e) (o >>= k)) (sym q.2) (stops_reading_at o k d rest h))

-- ---- the same of fields alone

pub then_reads : {A B : Type 0} (o : Option A) (k : A → Option (B × List Element)) (x : A) (rest : List Element) (r : Result B DecodeError) → o ≡ Some x → Reads r rest (k x) → Reads r rest (o >>= k)
then_reads {A} {B} o k x rest r e d = subst (λ (p : Option A). Reads r rest (p >>= k)) (sym e) d

unread_at : {A B : Type 0} (o : Option (A × List Element)) (k : A × List Element → Option (B × List Element)) (d : DecodeError) (mid rest : List Element) → Reads (Err d) mid o → Reads {A = B} (Err d) rest (o >>= k)
unread_at {A} {B} o k NotInGrammar mid rest h = ap (λ (p : Option (A × List Element)). p >>= k) h
unread_at o k OutOfMemory mid rest h = tt

-- at a field that wasn't read
pub unread : {A B : Type 0} (o : Option (A × List Element)) (k : A × List Element → Option (B × List Element)) (d : DecodeError) (mid rest : List Element) (r : Result B DecodeError) → Reads (Err d) mid o → IsErrAnd r (λ e. e ≡ d) → Reads r rest (o >>= k)
unread {A} {B} o k d mid rest r h p =
    let q = err_from_is_err_and r p in
    subst (λ (r : Result B DecodeError). Reads r rest (o >>= k)) (sym q.1) (subst (λ (e : DecodeError). Reads {A = B} (Err e) rest (o >>= k)) (sym q.2) (unread_at o k d mid rest h))

-- at a default that is written
undefaulted_at : {A B : Type 0} (o : Option A) (k : A → Option (B × List Element)) (d : DecodeError) (rest : List Element) → Decodes (Err d) o → Reads {A = B} (Err d) rest (o >>= k)
undefaulted_at {A} {B} o k NotInGrammar rest h = ap (λ (p : Option A). p >>= k) h
undefaulted_at o k OutOfMemory rest h = tt

pub undefaulted : {A B : Type 0} (o : Option A) (k : A → Option (B × List Element)) (d : DecodeError) (rest : List Element) (r : Result B DecodeError) → Decodes (Err d) o → IsErrAnd r (λ e. e ≡ d) → Reads r rest (o >>= k)
undefaulted {A} {B} o k d rest r h p =
    let q = err_from_is_err_and r p in
    subst (λ (r : Result B DecodeError). Reads r rest (o >>= k)) (sym q.1) (subst (λ (e : DecodeError). Reads {A = B} (Err e) rest (o >>= k)) (sym q.2) (undefaulted_at o k d rest h))
