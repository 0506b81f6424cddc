-- What each return of the shape's reading says.
pub mod ShapeFields
