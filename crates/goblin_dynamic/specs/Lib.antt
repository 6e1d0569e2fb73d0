pub mod Dyn
pub mod Dynamic
pub mod DynamicLaws
