pub mod FirstLabelOf
