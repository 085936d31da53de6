-- That what is read of a value tells the least reason in it.
use Rattle.std.specs.Prelude.{List, ◌∷◌, Result, refl}
use Rattle.toml.specs.Data.{Data, Items, no_items, item, as_array}
use Rattle.toml_format.specs.Outcome.{both, TellsLeast}
use Rattle.toml_format.specs.ValueReading.{read_items, item_reasons, read_array, array_reasons}
use Rattle.toml_format.specs.declared.reason.Reason.{Reason}
use Rattle.toml_format.specs.declared.reason.Reason.TheVariants.{WrongType}
use Rattle.toml_format.specs.laws.LeastReasons.{tells_both, tells_mapped, tells_in}

module _ {A : Type 0} (read : Data → Result A Reason) (reasons : Data → List Reason) (tells : (d : Data) → TellsLeast (read d) (reasons d)) where
  pub items_tell : (ds : Items) → TellsLeast (read_items read ds) (item_reasons reasons ds)
  items_tell no_items = refl
  items_tell (item d ds) = tells_mapped (both (read d) (read_items read ds)) (λ x. x.0 ∷ x.1) (item_reasons reasons (item d ds))
      (tells_both (read d) (read_items read ds) (reasons d) (item_reasons reasons ds) (tells d) (items_tell ds))

  pub array_tells : (d : Data) → TellsLeast (read_array read d) (array_reasons reasons d)
  unfolding read_array
  array_tells d = tells_in (as_array d) WrongType (read_items read) (item_reasons reasons) items_tell
