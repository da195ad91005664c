pub mod FormsOfData
pub mod NumbersOfRefusal
