-- One item more of a list, seen so, that passes.
use Rattle.std.specs.Prelude.{◌≡◌, ℕ, ◌+◌, ◌<◌, Bool, ◌&&◌, List, length, map, take}
use Rattle.std.specs.List.{list_all}
use Rattle.std.proofs.Common.{ap, sym, get_or, ◌∙◌}
use Rattle.std.proofs.lemmas.List.Folds.{list_all-map, list_all_more}
use Rattle.rcgen_text.specs.AlternativeNames.{alternative_name}
use Rattle.rcgen_text.specs.Names.{entry_of}
use Rattle.rcgen_text.specs.declared.dn_type.DnType.{DnType}
use Rattle.rcgen_text.specs.declared.dn_value.DnValue.{DnValue}
use Rattle.rcgen_text.specs.declared.san.SanType.{SanType}
use Rattle.rcgen_read.specs.NamesReadBack.{is_held, is_held_name}

seen_more : {X Y : Type 0} (f : X → Y) (p : Y → Bool) (xs : List X) (i : ℕ) (d : X) → i < length xs
    → list_all p (map f (take (i + 1) xs)) ≡ (list_all p (map f (take i xs)) && p (f (get_or xs i d)))
seen_more f p xs i d l =
    list_all-map p f (take (i + 1) xs) ∙ list_all_more (λ x. p (f x)) xs i d l
    ∙ ap (λ (b : Bool). b && p (f (get_or xs i d))) (sym (list_all-map p f (take i xs)))

pub entries_more : (es : List (DnType × DnValue)) (i : ℕ) (d : DnType × DnValue) → i < length es
    → list_all is_held (map entry_of (take (i + 1) es)) ≡ (list_all is_held (map entry_of (take i es)) && is_held (entry_of (get_or es i d)))
entries_more es i d l = seen_more entry_of is_held es i d l

pub names_more : (ns : List SanType) (i : ℕ) (d : SanType) → i < length ns
    → list_all is_held_name (map alternative_name (take (i + 1) ns))
    ≡ (list_all is_held_name (map alternative_name (take i ns)) && is_held_name (alternative_name (get_or ns i d)))
names_more ns i d l = seen_more alternative_name is_held_name ns i d l
