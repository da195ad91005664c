pub mod LeadsAhead
