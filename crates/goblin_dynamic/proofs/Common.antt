-- What the proofs of this crate cite most, passed on from one place. Declares nothing.
pub use Rattle.std.proofs.Common.{rules, sym, ◌∙◌}
pub use Rattle.std.proofs.lemmas.Iterator.Adapters.{option_map_id}
pub use Rattle.std.proofs.lemmas.Iterator.Consumers.{YieldsList-from_first}
pub use Rattle.std.proofs.lemmas.Iterator.Search.{find_from_yields_List}
