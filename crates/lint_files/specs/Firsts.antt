-- The first certificate under each key, as a map has it.
use Rattle.std.specs.Prelude.{Bool, List, None, Option, Some, cond, option_map, ℕ}
use Rattle.std.specs.Borrow.{Bor}
use Rattle.std.specs.BTreeMap as tree
use Rattle.std.specs.BTreeMap.{BTreeMap}
use Rattle.lint_files.specs.Issuers.{any_key, key_of, or_else}
use Rattle.lint_files.specs.Namings.{NamingView}
use Rattle.lint_files.specs.contracts.index_key.IndexKeyOrd.TheImpl.{ghosts as order}
use Rattle.lint_files.specs.declared.index_key.IndexKey.{IndexKey}

abbrev pub first_at : BTreeMap IndexKey (Bor (List ℕ)) → IndexKey → Option (List ℕ)
first_at m q = option_map (λ (octets : Bor (List ℕ)). octets.now) (tree.get order.cmp m q)

-- one without an identifier of its key, else any, where another key is taken too
abbrev pub with_other_key : (IndexKey → Option (List ℕ)) → List ℕ → Bool → Option (List ℕ)
with_other_key first name by_name = or_else (first (key_of name None)) (cond by_name (first (any_key name)) None)

abbrev pub by_index_key : (IndexKey → Option (List ℕ)) → List ℕ → Option (List ℕ) → Bool → Option (List ℕ)
by_index_key first name None by_name = first (any_key name)
by_index_key first name (Some key) by_name = or_else (first (key_of name (Some key))) (with_other_key first name by_name)

-- who is named: any certificate where no key is, else the one with the identifier of the key, else one without, else any
abbrev pub by_index : (IndexKey → Option (List ℕ)) → NamingView → Option (List ℕ)
by_index first n = by_index_key first n.name n.key n.by_name
