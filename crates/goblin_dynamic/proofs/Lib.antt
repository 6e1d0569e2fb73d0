mod Common
mod DynamicLemmas
mod FirstEntries
